-- The search by halves: one turn of it, and where it ends among sorted rows.
use Rattle.std.proofs.Common.{◌≡◌, ℕ, zero, suc, ◌+◌, ◌-◌, ◌/◌, ◌<◌, ◌≤◌, Bool, true, false, cond, List, [], ◌∷◌, ◌++◌, length, get_or, take, drop, is_some, Ok, Err, sym, refl, ap, ◌∙◌, subst, ⊎_elim, arith, length-drop, take-append-drop, length-take, get_or-drop, get_or-take}
use Rattle.std.proofs.lemmas.List.{take-take, drop-drop, drop-take, drop_more, take_rest, length-take-le}
use Rattle.std.proofs.lemmas.Bool.{cases_Bool, and_parts}
use Rattle.std.specs.Cmp.{IsStrictWeakOrder}
use Rattle.table.proofs.Less.{past}
use Rattle.table.specs.Rows.{above, sorted, look, place}
use Rattle.table.proofs.Sorting.{sorted-take, sorted-drop}
use Rattle.table.specs.Searching.{halving, spot, hit, found, found_sorted}

module _ {R K : Type 0} (key : R → K) (before : K → K → Bool) where
  -- among no rows it ends at once
  halving-none : (turns : ℕ) (k : K) (rs : List R) → length rs ≤ 0 → halving key before turns k rs ≡ 0
  unfolding halving
  halving-none zero k rs h = refl
  halving-none (suc turns) k [] h = refl
  halving-none (suc turns) k (r ∷ rs) h = absurd (omega arith)

  -- one turn, by the record x in the middle
  module _ (turns : ℕ) (k : K) (rs : List R) (x : R) (rest : List R) (middle : drop (length rs / 2) rs ≡ x ∷ rest) where
    halving-behind : before (key x) k ≡ true → halving key before (suc turns) k rs ≡ length rs / 2 + suc (halving key before turns k rest)
    unfolding halving
    halving-behind b = rw (middle, b)

    halving_before : before (key x) k ≡ false → halving key before (suc turns) k rs ≡ halving key before turns k (take (length rs / 2) rs)
    unfolding halving
    halving_before b = rw (middle, b)

  bound_by_middle : (turns : ℕ) (k : K) (rs : List R) → ((xs : List R) → halving key before turns k xs ≤ length xs) → (ds : List R) → drop (length rs / 2) rs ≡ ds
      → halving key before (suc turns) k rs ≤ length rs
  unfolding halving
  bound_by_middle turns k rs ih [] e = rw e (omega arith)
  bound_by_middle turns k rs ih (r ∷ rest) e =
      let ld = length-drop (length rs / 2) rs in
      let le = ap length e in
      ⊎_elim
      (λ (b : before (key r) k ≡ true). omega (arith, halving-behind turns k rs r rest e b, ih rest))
      (λ (b : before (key r) k ≡ false). omega (arith, halving_before turns k rs r rest e b, ih (take (length rs / 2) rs), length-take (length rs / 2) rs))
      (cases_Bool (before (key r) k))

  -- the rows from low up to high decide the whole
  pub record Halving (rs : List R) (k : K) (low high : ℕ) : Type 0 where
    pub turns : ℕ
    pub enough : high - low ≤ turns
    pub ordered : low ≤ high
    pub inside : high ≤ length rs
    pub same : low + halving key before turns k (take (high - low) (drop low rs)) ≡ spot key before k rs

  pub begins : (rs : List R) (k : K) → Halving rs k 0 (length rs)
  begins rs k =
      let e : take (length rs - 0) rs ≡ rs = take_rest rs 0 in
      record {
        turns = length rs;
        enough = omega arith;
        ordered = omega arith;
        inside = omega arith;
        same = ap (λ l. 0 + halving key before (length rs) k l) e ∙ omega arith;
      }

  pub ends : {rs : List R} {k : K} {low high : ℕ} → Halving rs k low high → high ≤ low → low ≡ spot key before k rs
  ends {rs} {k} {low} {high} g h =
      let e = halving-none g.turns k (take (high - low) (drop low rs)) (omega (arith, length-take (high - low) (drop low rs))) in
      omega (arith, e, g.same)

  -- the middle of the rows from low up to high
  module _ {rs : List R} {k : K} {low high : ℕ} (g : Halving rs k low high) (h : low < high) (middle : ℕ) (is_middle : middle ≡ low + (high - low) / 2) (x : R) (there : x ≡ get_or rs middle x) where
    abbrev n : ℕ
    n = high - low

    abbrev half : ℕ
    half = (high - low) / 2

    part_length : length (take n (drop low rs)) ≡ n
    part_length = let i = g.inside in let d = length-drop low rs in length-take-le n (drop low rs) (omega arith)

    cut : drop (length (take n (drop low rs)) / 2) (take n (drop low rs)) ≡ x ∷ take (high - (middle + 1)) (drop (middle + 1) rs)
    cut =
        let l = part_length in
        let less : half < n = omega arith in
        let at : get_or (take n (drop low rs)) half x ≡ x = get_or-take n (drop low rs) half x less ∙ get_or-drop low rs half x ∙ ap (λ m. get_or rs m x) (sym is_middle) ∙ sym there in
        let size : n ≡ half + 1 + (high - (middle + 1)) = omega arith in
        ap (λ m. drop (m / 2) (take n (drop low rs))) l
        ∙ drop_more (take n (drop low rs)) half x (omega arith)
        ∙ (λ i. at i ∷ drop (half + 1) (take (size i) (drop low rs)))
        ∙ ap (λ t. x ∷ t)
        (drop-take (half + 1) (high - (middle + 1)) (drop low rs) ∙ ap (take (high - (middle + 1))) (drop-drop (half + 1) low rs ∙ ap (λ m. drop m rs) (omega arith)))

    fuel : (t : ℕ) × (g.turns ≡ suc t)
    fuel = one_more g.turns (omega (arith, g.enough))
      where
        one_more : (m : ℕ) → 1 ≤ m → (t : ℕ) × (m ≡ suc t)
        one_more zero l = absurd (omega arith)
        one_more (suc m) l = (m, refl)

    started : low + halving key before (suc fuel.0) k (take n (drop low rs)) ≡ spot key before k rs
    started = ap (λ t. low + halving key before t k (take n (drop low rs))) (sym fuel.1) ∙ g.same

    pub go_up : before (key x) k ≡ true → Halving rs k (middle + 1) high
    go_up b =
        let i = g.inside in
        let e = g.enough in
        let f = fuel.1 in
        let l = part_length in
        let s = halving-behind fuel.0 k (take n (drop low rs)) x _ cut b in
        let q : length (take n (drop low rs)) / 2 ≡ half = ap (λ m. m / 2) l in
        let st = started in
        record { turns = fuel.0; enough = omega arith; ordered = omega arith; inside = i; same = omega arith }

    pub go_down : before (key x) k ≡ false → Halving rs k low middle
    go_down b =
        let i = g.inside in
        let e = g.enough in
        let f = fuel.1 in
        let l = part_length in
        let s = halving_before fuel.0 k (take n (drop low rs)) x _ cut b in
        let shorter : take (length (take n (drop low rs)) / 2) (take n (drop low rs)) ≡ take (middle - low) (drop low rs) =
        ap (λ m. take (m / 2) (take n (drop low rs))) l ∙ take-take half n (drop low rs) (omega arith) ∙ ap (λ m. take m (drop low rs)) (omega arith) in
        record {
          turns = fuel.0;
          enough = omega arith;
          ordered = omega arith;
          inside = omega arith;
          same = ap (λ t. low + halving key before fuel.0 k t) (sym shorter) ∙ ap (λ t. low + t) (sym s) ∙ started;
        }

  -- what is found at the place of a key
  pub hit-place : (k : K) (at : ℕ) (rs : List R) → hit key before k at (drop (place key before k rs) rs) ≡ cond (is_some (look key before k rs)) (Ok at) (Err at)
  hit-place k at [] = refl
  hit-place k at (r ∷ rs) = grind (arith, hit-place k at rs)

  -- a record that does not come before k ends the count
  place_short : (k : K) (xs : List R) (r : R) (rest : List R) → before (key r) k ≡ false → place key before k (xs ++ r ∷ rest) ≡ place key before k xs
  place_short k [] r rest b = rw b
  place_short k (x ∷ xs) r rest b = grind (arith, place_short k xs r rest)

  place_none : (k : K) (rs : List R) → length rs ≤ 0 → 0 ≡ place key before k rs
  place_none k [] h = refl
  place_none k (r ∷ rs) h = absurd (omega arith)

  above_in : (k : K) (xs : List R) (r : R) (rest : List R) → above key before k (xs ++ r ∷ rest) ≡ true → before k (key r) ≡ true
  above_in k [] r rest h = (and_parts (before k (key r)) (above key before k rest) h).0
  above_in k (x ∷ xs) r rest h = above_in k xs r rest (and_parts (before k (key x)) (above key before k (xs ++ r ∷ rest)) h).1

  module _ (laws : IsStrictWeakOrder before) where
    -- before a record that comes before k stand only such records
    place_past : (k : K) (xs : List R) (r : R) (rest : List R) → sorted key before (xs ++ r ∷ rest) ≡ true → before (key r) k ≡ true
        → place key before k (xs ++ r ∷ rest) ≡ length xs + suc (place key before k rest)
    place_past k [] r rest s b = rw b (omega arith)
    place_past k (x ∷ xs) r rest s b =
        let p = and_parts (above key before (key x) (xs ++ r ∷ rest)) (sorted key before (xs ++ r ∷ rest)) s in
        let t = past before laws (key x) (key r) k (above_in (key x) xs r rest p.0) b in
        rw t (ap suc (place_past k xs r rest p.1 b) ∙ omega arith)

    -- halving ends at the key's place, where it does for fewer rows
    place_by_middle : (turns : ℕ) (k : K) (rs : List R) → length rs ≤ suc turns → sorted key before rs ≡ true
        → ((xs : List R) → length xs ≤ turns → sorted key before xs ≡ true → halving key before turns k xs ≡ place key before k xs)
        → (ds : List R) → drop (length rs / 2) rs ≡ ds → halving key before (suc turns) k rs ≡ place key before k rs
    place_by_middle turns k rs h s ih [] e =
        let none : length rs ≤ 0 = omega (arith, length-drop (length rs / 2) rs, ap length e) in
        halving-none (suc turns) k rs none ∙ place_none k rs none
    place_by_middle turns k rs h s ih (r ∷ rest) e =
        let half = length rs / 2 in
        let whole : take half rs ++ (r ∷ rest) ≡ rs = ap (λ t. take half rs ++ t) (sym e) ∙ take-append-drop half rs in
        let lt : length (take half rs) ≡ half = length-take-le half rs (omega arith) in
        let ld = length-drop half rs in
        let le = ap length e in
        let all_sorted = subst (λ t. sorted key before t ≡ true) (sym whole) s in
        let tail : sorted key before (r ∷ rest) ≡ true = subst (λ t. sorted key before t ≡ true) e (sorted-drop key before half rs s) in
        let rest_sorted = (and_parts (above key before (key r) rest) (sorted key before rest) tail).1 in
        ⊎_elim
        (λ (b : before (key r) k ≡ true).
        halving-behind turns k rs r rest e b ∙ ap (λ t. half + suc t) (ih rest (omega arith) rest_sorted)
        ∙ ap (λ t. t + suc (place key before k rest)) (sym lt) ∙ sym (place_past k (take half rs) r rest all_sorted b) ∙ ap (place key before k) whole)
        (λ (b : before (key r) k ≡ false).
        halving_before turns k rs r rest e b ∙ ih (take half rs) (omega arith) (sorted-take key before half rs s)
        ∙ sym (place_short k (take half rs) r rest b) ∙ ap (place key before k) whole)
        (cases_Bool (before (key r) k))

    halving-place : (turns : ℕ) (k : K) (rs : List R) → length rs ≤ turns → sorted key before rs ≡ true → halving key before turns k rs ≡ place key before k rs
    halving-place zero k rs h s = halving-none zero k rs h ∙ place_none k rs h
    halving-place (suc turns) k rs h s = place_by_middle turns k rs h s (λ xs. halving-place turns k xs) (drop (length rs / 2) rs) refl

    pub spot-place : (k : K) (rs : List R) → sorted key before rs ≡ true → spot key before k rs ≡ place key before k rs
    spot-place k rs s = halving-place (length rs) k rs (omega arith) s

    pub found_sorted_lem : (k : K) (rs : List R) → sorted key before rs ≡ true → found key before k rs ≡ found_sorted key before k rs
    found_sorted_lem k rs s =
        ap (λ at. hit key before k at (drop at rs)) (spot-place k rs s) ∙ hit-place k (place key before k rs) rs

  -- the search ends inside the rows, or right behind them
  halving_bound : (turns : ℕ) (k : K) (rs : List R) → halving key before turns k rs ≤ length rs
  unfolding halving
  halving_bound zero k rs = omega arith
  halving_bound (suc turns) k rs = bound_by_middle turns k rs (halving_bound turns k) (drop (length rs / 2) rs) refl

  pub spot_bound : (k : K) (rs : List R) → spot key before k rs ≤ length rs
  spot_bound k rs = halving_bound (length rs) k rs
