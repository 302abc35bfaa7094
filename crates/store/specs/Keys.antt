-- The order of keys: by address, then module, then index.
use Rattle.std.specs.Prelude.{Bool, ◌&&◌, ◌||◌, ◌==◌, nat_lt}
use Rattle.store.specs.declared.keys.Key.{Key}

abbrev pub key_before : Key → Key → Bool
key_before a b =
    nat_lt a.address b.address
    || (a.address == b.address && (nat_lt a.«module» b.«module» || (a.«module» == b.«module» && nat_lt a.index b.index)))
