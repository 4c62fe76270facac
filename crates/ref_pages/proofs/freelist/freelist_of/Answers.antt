use Rattle.std.proofs.Common.{◌≡◌, ℕ, Option, IfSome, IfNone, List, [], ◌∷◌, ◌++◌, length, subst, sym, ap, ap₂, ◌∙◌, arith, length-append, append_assoc}
use Rattle.page_list.specs.Freelist.{Trunk, next_trunk}
use Rattle.ref_pages.specs.AsPages.{pages_of}
use Rattle.ref_pages.specs.FreeSteps.{Follows}
use Rattle.ref_pages.specs.declared.freelist.RefTrunk.{RefTrunk}
use Rattle.ref_pages.proofs.FreeLemmas.{OnWay, on_way_more, on_way_all, on_way_stops, on_way_few}
use Rattle.ref_pages.proofs.freelist.freelist_of.Goals as goal

pub returns-in_default-clause-none : goal.returns-in_default-clause-none
returns-in_default-clause-none c =
    let pages = pages_of c.args.pages.now in
    let met = c.loop-next.met.items in
    let P : Option RefTrunk → Type 0 = λ found. IfNone found ((trunk : Trunk) → trunk.number ≡ c.loop-next.next → ¬ (Follows pages c.deref.result.now trunk)) in
    let Q : List ℕ → Type 0 = λ l. (trunk : Trunk) → trunk.number ≡ c.loop-next.next → ¬ (Follows pages l trunk) in
    on_way_stops pages c.loop-next.trunks.items met c.loop-next.next c.loop-next.invariant c.loop-next-test.true
    (subst Q c.deref.ensures.value (subst P c.in_default.is c.in_ok-trunk.ensures.none))

pub loop-next-smaller : goal.loop-next-smaller
loop-next-smaller c =
    let few = on_way_few (pages_of c.args.pages.now) c.loop-next.trunks.items c.loop-next.met.items c.loop-next.next c.loop-next.invariant in
    let one = ap (λ (l : List ℕ). length l) c.in_ok-push.ensures.items in
    let all = ap (λ (l : List ℕ). length l) c.in_ok-extend_from_slice.ensures.items in
    omega (arith, few, one, all, length-append c.loop-next.met.items (c.number.result ∷ []), length-append c.push.new.self.items c.leaves.result.now)

pub loop-next-preserved : goal.loop-next-preserved
loop-next-preserved c =
    let pages = pages_of c.args.pages.now in
    let met = c.loop-next.met.items in
    let P : Option RefTrunk → Type 0 = λ found. IfSome found (λ trunk. (trunk.number ≡ c.loop-next.next) × Follows pages c.deref.result.now trunk) in
    let found = subst P c.in-Some.is c.in_ok-trunk.ensures.found in
    let Q : List ℕ → Type 0 = λ l. Follows pages l c.in-Some.trunk in
    let more = on_way_more pages c.loop-next.trunks.items met c.loop-next.next c.in-Some.trunk c.loop-next.invariant found.0 c.loop-next-test.true (subst Q c.deref.ensures.value found.1) in
    let met_are : c.extend_from_slice.new.self.items ≡ met ++ (c.in-Some.trunk.number ∷ c.in-Some.trunk.leaves) =
    c.in_ok-extend_from_slice.ensures.items
    ∙ ap₂ (λ (a b : List ℕ). a ++ b) (c.in_ok-push.ensures.items ∙ ap (λ (n : ℕ). met ++ n ∷ []) c.number.ensures) c.leaves.ensures
    ∙ append_assoc met (c.in-Some.trunk.number ∷ []) c.in-Some.trunk.leaves in
    let A : List Trunk → Type 0 = λ l. OnWay pages l (met ++ (c.in-Some.trunk.number ∷ c.in-Some.trunk.leaves)) (next_trunk pages c.loop-next.next) in
    let B : List ℕ → Type 0 = λ l. OnWay pages c.push-in-loop-next.new.self.items l (next_trunk pages c.loop-next.next) in
    let C : ℕ → Type 0 = λ n. OnWay pages c.push-in-loop-next.new.self.items c.extend_from_slice.new.self.items n in
    subst C (sym c.word_of-next-in-loop-next.ensures) (subst B (sym met_are) (subst A (sym c.in_ok-push-2.ensures.items) more))

pub returns-clause-found : goal.returns-clause-found
returns-clause-found c =
    let pages = pages_of c.args.pages.now in
    let P : ℕ → Type 0 = λ n. OnWay pages c.loop-next.trunks.items c.loop-next.met.items n in
    on_way_all pages c.loop-next.trunks.items c.loop-next.met.items (subst P c.loop-next-test.false c.loop-next.invariant)
