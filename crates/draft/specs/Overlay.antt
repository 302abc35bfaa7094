-- Changes over a map: words to put, or none to take out.
use Rattle.std.specs.Prelude.{ℕ, Bool, not, ◌&&◌, List, [], ◌∷◌, length, Some, None, Option, nat_lt}
use Rattle.store.specs.declared.keys.Key.{Key}
use Rattle.store.specs.Pairs.{Entry, holds, put_in, take_out}

abbrev pub apply : Key → List ℕ → List Entry → List Entry
apply k [] ps = take_out k ps
apply k (w ∷ ws) ps = put_in k (w ∷ ws) ps

abbrev pub overlay : List Entry → List Entry → List Entry
overlay [] ps = ps
overlay (e ∷ es) ps = apply e.0 e.1 (overlay es ps)

-- what a change leaves at its key
abbrev pub left : Key → List ℕ → Option Entry
left k [] = None
left k (w ∷ ws) = Some (k, w ∷ ws)

-- a change hides what lies below
abbrev pub shadow : Option Entry → Option Entry → Option Entry
shadow None o = o
shadow (Some e) o = left e.0 e.1

-- whether a change makes one pair more, or one less
abbrev pub adds : List Entry → Entry → Bool
adds ps e = nat_lt 0 (length e.1) && not (holds e.0 ps)

abbrev pub takes : List Entry → Entry → Bool
takes ps e = not (nat_lt 0 (length e.1)) && holds e.0 ps
