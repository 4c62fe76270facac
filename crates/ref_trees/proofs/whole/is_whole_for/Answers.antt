use Rattle.std.proofs.Common.{◌≡◌, ℕ, ◌≤◌, ◌++◌, List, Result, Vec, Global, IfOk, IfErr, ap₂, ◌∙◌, subst}
use Rattle.page_list.specs.Pages.{times}
use Rattle.tree_model.specs.Whole.{first_page, named_pages}
use Rattle.ref_pages.specs.AsPages.{pages_of}
use Rattle.ref_trees.specs.Forest.{IsLack}
use Rattle.ref_trees.specs.ForestSteps.{AreWholeWith, IsWholeFreelist}
use Rattle.ref_trees.specs.declared.whole.Lacks.{Lacks}
use Rattle.ref_trees.specs.declared.whole.Lacks.TheVariants as lacks
use Rattle.ref_trees.proofs.ForestLemmas.{not_whole, forest_of_whole}
use Rattle.ref_trees.proofs.whole.is_whole_for.Goals as goal

pub returns-in-Err-clause-refused : goal.returns-in-Err-clause-refused
returns-in-Err-clause-refused c =
    let P : Result (Vec ℕ Global) Lacks → Type 0 = λ answer. IfErr answer (IsLack (pages_of c.args.pages.now) c.args.roots.now) in
    not_whole c.one_tree.ensures c.one_freelist.ensures (pages_of c.args.pages.now) c.args.roots.now c.in-Err.lacks (subst P c.in-Err.is c.in_ok-named.ensures.lacks)

pub returns-in-Err-2-clause-lacks : goal.returns-in-Err-2-clause-lacks
returns-in-Err-2-clause-lacks c =
    let P : Result (Vec ℕ Global) Lacks → Type 0 = λ answer. IfErr answer (IsLack (pages_of c.args.pages.now) c.args.roots.now) in
    subst P c.in-Err-2.is (c.in_ok-free.ensures.lacks c.args.roots.now)

pub returns-in-Err-2-clause-refused : goal.returns-in-Err-2-clause-refused
returns-in-Err-2-clause-refused c =
    let P : Result (Vec ℕ Global) Lacks → Type 0 = λ answer. IfErr answer (IsLack (pages_of c.args.pages.now) c.args.roots.now) in
    not_whole c.one_tree.ensures c.one_freelist.ensures (pages_of c.args.pages.now) c.args.roots.now c.in-Err-2.lacks
    (subst P c.in-Err-2.is (c.in_ok-free.ensures.lacks c.args.roots.now))

pub returns-in-Some-clause-lacks : goal.returns-in-Some-clause-lacks
returns-in-Some-clause-lacks c =
    let pages = pages_of c.args.pages.now in
    let roots = c.args.roots.now in
    let P : Result (Vec ℕ Global) Lacks → Type 0 = λ answer. IfOk answer (λ named. AreWholeWith pages roots named.items) in
    let Q : Result (Vec ℕ Global) Lacks → Type 0 = λ answer. IfOk answer (λ free. IsWholeFreelist pages free.items) in
    let w = subst P c.in-Ok.is c.in_ok-named.ensures.whole in
    let f = subst Q c.in-Ok-2.is c.in_ok-free.ensures.whole in
    let all_are : c.deref-3.result.now ≡ named_pages roots w.trees f.trunks = c.deref-3.ensures.value ∙ c.in_ok-all.ensures
    ∙ ap₂ (λ (a b : List ℕ). (first_page roots ++ a) ++ b) (c.deref.ensures.value ∙ w.named_are) (c.deref-2.ensures.value ∙ f.free_are) in
    let R : List ℕ → Type 0 = λ l. 2 ≤ times c.in-Some.page l in
    record {
      trees = w.trees;
      each = forest_of_whole pages roots w.trees w.each;
      said = record { trunks = f.trunks; has = f.has; said = subst R all_are c.in-Some.ensures.twice };
    }

pub returns-in-Some-clause-refused : goal.returns-in-Some-clause-refused
returns-in-Some-clause-refused c =
    let pages = pages_of c.args.pages.now in
    let roots = c.args.roots.now in
    let P : Result (Vec ℕ Global) Lacks → Type 0 = λ answer. IfOk answer (λ named. AreWholeWith pages roots named.items) in
    let Q : Result (Vec ℕ Global) Lacks → Type 0 = λ answer. IfOk answer (λ free. IsWholeFreelist pages free.items) in
    let w = subst P c.in-Ok.is c.in_ok-named.ensures.whole in
    let f = subst Q c.in-Ok-2.is c.in_ok-free.ensures.whole in
    let all_are : c.deref-3.result.now ≡ named_pages roots w.trees f.trunks = c.deref-3.ensures.value ∙ c.in_ok-all.ensures
    ∙ ap₂ (λ (a b : List ℕ). (first_page roots ++ a) ++ b) (c.deref.ensures.value ∙ w.named_are) (c.deref-2.ensures.value ∙ f.free_are) in
    let R : List ℕ → Type 0 = λ l. 2 ≤ times c.in-Some.page l in
    not_whole c.one_tree.ensures c.one_freelist.ensures pages roots (lacks.Twice c.in-Some.page) (record {
      trees = w.trees;
      each = forest_of_whole pages roots w.trees w.each;
      said = record { trunks = f.trunks; has = f.has; said = subst R all_are c.in-Some.ensures.twice };
    })
