pub mod KeyByKey
pub mod WrittenBack
