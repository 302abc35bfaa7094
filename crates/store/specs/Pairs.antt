-- Maps from keys to words, as rows sorted by key.
use Rattle.std.specs.Prelude.{ℕ, ◌-◌, Bool, List, [], ◌++◌, length, replicate, is_some, Some, None, Option}
use Rattle.std.specs.Option.{option_map}
use Rattle.store.specs.declared.keys.Key.{Key}
use Rattle.store.specs.Keys.{key_before}
use Rattle.table.specs.Rows as rows

abbrev pub Entry : Type 0
Entry = Key × List ℕ

abbrev pub key_of : Entry → Key
key_of e = e.0

abbrev pub ordered : List Entry → Bool
ordered ps = rows.sorted key_of key_before ps

abbrev pub entry : Key → List Entry → Option Entry
entry k ps = rows.look key_of key_before k ps

abbrev pub holds : Key → List Entry → Bool
holds k ps = is_some (entry k ps)

abbrev pub put_in : Key → List ℕ → List Entry → List Entry
put_in k ws ps = rows.put key_of key_before (k, ws) ps

abbrev pub take_out : Key → List Entry → List Entry
take_out k ps = rows.without key_of key_before k ps

abbrev pub words_of : Option Entry → List ℕ
words_of None = []
words_of (Some e) = e.1

-- 16 words: the given ones, then zeros
abbrev pub padded : List ℕ → List ℕ
padded ws = ws ++ replicate (16 - length ws) 0

-- what a place of 16 words holds after a read: the words that were found, then zeros; or what it held
abbrev pub shown : Option Entry → List ℕ → List ℕ
shown None place = place
shown (Some e) place = padded e.1

-- the smallest key above the given one, or the first
abbrev pub next_key : Option Key → List Entry → Option Key
next_key None ps = option_map key_of (rows.first ps)
next_key (Some k) ps = option_map key_of (rows.next key_of key_before k ps)
