-- Code has its frames exactly if all ways into an instruction come with one frame.
use Rattle.std.proofs.Common.{◌≡◌, ℕ, ◌<◌, ◌≤◌, ◌⊎◌, ◌↔◌, sym, ap, ◌∙◌, subst, inl, inr, arith}
use Rattle.std.proofs.lemmas.Bool.{cases_lt}
use Rattle.flow.specs.Search.{Flow}
use Rattle.flow.specs.Framed as framed
use Rattle.flow.specs.Framed.{Walk}
use Rattle.flow.specs.Ways.{Way, first, next, OneFrameForAllWays}
use Rattle.flow.specs.Agreement.{OneFrame}

module _ {F E : Type 0} (c : Flow F E) (n : ℕ) (f₀ : F) where
  module _ (o : OneFrame c n f₀) (pos : 0 < n) where
    way_frame : {k : ℕ} {f : F} → Way c f₀ k f → (k < n) × (f ≡ o.frame k)
    way_frame first = (pos, sym o.begins)
    way_frame (next {k = k} {j = j} {f = f} {g = g} w r x) =
        let ih = way_frame w in
        let p = o.passes k ih.0 in
        let e = ih.1 in let y = p.ruled in
        let same : g ≡ p.leaves = cc in
        (p.inside j x, same ∙ sym (p.meets j x))

    walk_way : {k : ℕ} → Walk c.succs k → Way c f₀ k (o.frame k)
    walk_way framed.first = subst (Way c f₀ 0) (sym o.begins) first
    walk_way (framed.next {k = k} {j = j} w x) =
        let ih = walk_way w in
        let p = o.passes k (way_frame ih).0 in
        subst (Way c f₀ j) (sym (p.meets j x)) (next ih p.ruled x)

    framed_ways : OneFrameForAllWays c n f₀
    framed_ways = record {
      inside = λ k f w. (way_frame w).0;
      ruled = λ k f w. let e = way_frame w in let p = o.passes k e.0 in (p.leaves, ap (c.rule k) e.1 ∙ p.ruled);
      agree = λ k f g v w. (way_frame v).1 ∙ sym (way_frame w).1;
      reached = λ k l. (o.frame k, walk_way (o.reached k l));
    }

  way_walk : {k : ℕ} {f : F} → Way c f₀ k f → Walk c.succs k
  way_walk first = framed.first
  way_walk (next w r x) = framed.next (way_walk w) x

  module _ (a : OneFrameForAllWays c n f₀) where
    pick : (k : ℕ) → (k < n) ⊎ (n ≤ k) → F
    pick k (inl l) = (a.reached k l).0
    pick k (inr l) = f₀

    frame : ℕ → F
    frame k = pick k (cases_lt k n)

    came : (k : ℕ) → k < n → Way c f₀ k (frame k)
    unfolding frame pick
    came k l = go (cases_lt k n)
      where
        go : (s : (k < n) ⊎ (n ≤ k)) → Way c f₀ k (pick k s)
        go (inl i) = (a.reached k i).1
        go (inr i) = absurd (omega arith)

    ways_framed : OneFrame c n f₀
    ways_framed = record {
      frame = frame;
      begins = a.agree 0 (frame 0) f₀ (came 0 (a.inside 0 f₀ first)) first;
      passes = λ k l. let w = came k l in let r = a.ruled k (frame k) w in record {
        leaves = r.0;
        ruled = r.1;
        inside = λ j x. a.inside j r.0 (next w r.1 x);
        meets = λ j x. let v = next w r.1 x in a.agree j (frame j) r.0 (came j (a.inside j r.0 v)) v;
      };
      reached = λ k l. way_walk (came k l);
    }

  pub one_frame_for_all_ways : 0 < n → OneFrame c n f₀ ↔ OneFrameForAllWays c n f₀
  one_frame_for_all_ways pos = (λ o. framed_ways o pos, λ a. ways_framed a)
