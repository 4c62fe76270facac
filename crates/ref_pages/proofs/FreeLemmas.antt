-- The freelist, put together trunk by trunk.
use Rattle.std.proofs.Common.{◌≡◌, ◌≢◌, ℕ, ◌+◌, ◌*◌, ◌≤◌, List, [], ◌∷◌, ◌++◌, length, refl, sym, ap, subst, ◌∙◌, inl, inr, arith, append_assoc}
use Rattle.std.proofs.lemmas.List.{append-nil, ext_get_or}
use Rattle.page_list.specs.Pages.{Pages, times, Among, AllDifferent}
use Rattle.byte_base.specs.Numbers.{number_at}
use Rattle.page_list.specs.Freelist.{Trunk, IsTrunk, AreTrunks, IsFreelist, free_pages, first_trunk, next_trunk}
use Rattle.ref_pages.specs.FreeSteps.{MayBeFree, Follows, AreLeaves}
use Rattle.page_list.proofs.ChainLemmas.{times-append}
use Rattle.ref_pages.proofs.DifferentLemmas.{among_either, pigeons}

-- ---- a page is one trunk

pub same_leaves : (pages : Pages) (bytes : List ℕ) (count : ℕ) (trunk : Trunk) (leaves : List ℕ) → bytes ≡ pages.bytes trunk.number → number_at 4 bytes 4 ≡ count
    → IsTrunk pages trunk → AreLeaves bytes count leaves → trunk.leaves ≡ leaves
same_leaves pages bytes count trunk leaves bytes_are count_is is are =
    let counts : length trunk.leaves ≡ length leaves = sym is.counted ∙ ap (λ b. number_at 4 b 4) (sym bytes_are) ∙ count_is ∙ sym are.counted in
    ext_get_or 0 trunk.leaves leaves counts (λ i within.
    sym (is.each i within) ∙ ap (λ b. number_at 4 b (8 + 4 * i)) (sym bytes_are) ∙ are.each i (omega (arith, are.counted)))

trunk_is : (a b : Trunk) → a.number ≡ b.number → a.leaves ≡ b.leaves → a ≡ b
trunk_is a b p q = ap (λ (n : ℕ). record { number = n; leaves = a.leaves }) p ∙ ap (λ (l : List ℕ). record { number = b.number; leaves = l }) q

two_trunks : (pages : Pages) (a b : Trunk) → IsTrunk pages a → IsTrunk pages b → a.number ≡ b.number → a ≡ b
two_trunks pages a b is_a is_b same =
    let P : ℕ → Type 0 = λ n. AreLeaves (pages.bytes n) (length b.leaves) b.leaves in
    let here : AreLeaves (pages.bytes b.number) (length b.leaves) b.leaves = record { counted = refl; each = is_b.each } in
    let counts : number_at 4 (pages.bytes a.number) 4 ≡ length b.leaves = ap (λ n. number_at 4 (pages.bytes n) 4) same ∙ is_b.counted in
    trunk_is a b same (same_leaves pages (pages.bytes a.number) (length b.leaves) a b.leaves refl counts is_a (subst P (sym same) here))

-- ---- free pages of trunks one behind the other

pub free_append : (a b : List Trunk) → free_pages (a ++ b) ≡ free_pages a ++ free_pages b
free_append [] b = refl
free_append (trunk ∷ more) b = ap (λ (l : List ℕ). (trunk.number ∷ trunk.leaves) ++ l) (free_append more b) ∙ sym (append_assoc (trunk.number ∷ trunk.leaves) (free_pages more) (free_pages b))

free_one : (trunk : Trunk) → free_pages (trunk ∷ []) ≡ trunk.number ∷ trunk.leaves
free_one trunk = append-nil (trunk.number ∷ trunk.leaves)

-- ---- on the way from page 1

-- all trunks are those so far and these
pub record Behind (pages : Pages) (trunks all : List Trunk) (next : ℕ) : Type 0 where
  pub rest : List Trunk
  pub all_are : all ≡ trunks ++ rest
  pub linked : AreTrunks pages next rest

pub record OnWay (pages : Pages) (trunks : List Trunk) (met : List ℕ) (next : ℕ) : Type 0 where
  pub met_are : met ≡ free_pages trunks
  pub free : MayBeFree pages met
  pub different : AllDifferent met
  pub front : (rest : List Trunk) → AreTrunks pages next rest → AreTrunks pages (first_trunk pages) (trunks ++ rest)
  pub only : (all : List Trunk) → IsFreelist pages all → Behind pages trunks all next

pub on_way_none : (pages : Pages) → OnWay pages [] [] (first_trunk pages)
on_way_none pages = record {
  met_are = refl;
  free = record { each = λ n some. absurd (omega (arith, some)) };
  different = record { once = λ n. omega arith };
  front = λ rest linked. linked;
  only = λ all h. record { rest = all; all_are = refl; linked = h.linked };
}

behind_more : (pages : Pages) (trunks all : List Trunk) (trunk : Trunk) (next : ℕ) → IsTrunk pages trunk → trunk.number ≡ next → next ≢ 0
    → (rest : List Trunk) → all ≡ trunks ++ rest → AreTrunks pages next rest → Behind pages (trunks ++ trunk ∷ []) all (next_trunk pages next)
behind_more pages trunks all trunk next is same some [] all_are linked = absurd (some linked)
behind_more pages trunks all trunk next is same some (t ∷ more) all_are linked =
    let e : t ≡ trunk = two_trunks pages t trunk linked.1 is (linked.0 ∙ sym same) in
    let P : ℕ → Type 0 = λ n. AreTrunks pages (next_trunk pages n) more in
    record {
      rest = more;
      all_are = all_are ∙ ap (λ (x : Trunk). trunks ++ x ∷ more) e ∙ sym (append_assoc trunks (trunk ∷ []) more);
      linked = subst P linked.0 linked.2;
    }

pub on_way_more : (pages : Pages) (trunks : List Trunk) (met : List ℕ) (next : ℕ) (trunk : Trunk) → OnWay pages trunks met next → trunk.number ≡ next → next ≢ 0
    → Follows pages met trunk → OnWay pages (trunks ++ trunk ∷ []) (met ++ (trunk.number ∷ trunk.leaves)) (next_trunk pages next)
on_way_more pages trunks met next trunk w same some f = record {
  met_are = ap (λ (l : List ℕ). l ++ (trunk.number ∷ trunk.leaves)) w.met_are ∙ ap (λ (l : List ℕ). free_pages trunks ++ l) (sym (free_one trunk)) ∙ sym (free_append trunks (trunk ∷ []));
  free = record { each = λ n among. elim (among_either n met (trunk.number ∷ trunk.leaves) among) [ inl before ↦ w.free.each n before | inr here ↦ f.free.each n here ] };
  different = f.different;
  front = λ rest linked.
      let P : ℕ → Type 0 = λ n. AreTrunks pages (next_trunk pages n) rest in
      subst (AreTrunks pages (first_trunk pages)) (sym (append_assoc trunks (trunk ∷ []) rest)) (w.front (trunk ∷ rest) (same, f.is_trunk, subst P (sym same) linked));
  only = λ all h. let b = w.only all h in behind_more pages trunks all trunk next f.is_trunk same some b.rest b.all_are b.linked;
}

pub on_way_all : (pages : Pages) (trunks : List Trunk) (met : List ℕ) → OnWay pages trunks met 0 → IsFreelist pages trunks
on_way_all pages trunks met w = record {
  linked = subst (AreTrunks pages (first_trunk pages)) (append-nil trunks) (w.front [] refl);
  within = λ n some. let P : List ℕ → Type 0 = λ l. Among l n in w.free.each n (subst P (sym w.met_are) some);
  different = subst AllDifferent w.met_are w.different;
}

follows_of : (pages : Pages) (trunks all : List Trunk) (met : List ℕ) (trunk : Trunk) (more : List Trunk) → met ≡ free_pages trunks → IsFreelist pages all
    → all ≡ trunks ++ (trunk ∷ more) → IsTrunk pages trunk → Follows pages met trunk
follows_of pages trunks all met trunk more met_are h all_are is =
    let own = trunk.number ∷ trunk.leaves in
    let parts : free_pages all ≡ met ++ (own ++ free_pages more) = ap free_pages all_are ∙ free_append trunks (trunk ∷ more) ∙ ap (λ (l : List ℕ). l ++ (own ++ free_pages more)) (sym met_are) in
    record {
      is_trunk = is;
      free = record { each = λ n some. h.within n (omega (arith, some, ap (times n) parts, times-append n met (own ++ free_pages more), times-append n own (free_pages more))) };
      different = record { once = λ n. omega (arith, h.different.once n, ap (times n) parts, times-append n met (own ++ free_pages more), times-append n own (free_pages more), times-append n met own) };
    }

no_rest : (pages : Pages) (trunks all : List Trunk) (met : List ℕ) (next : ℕ) → met ≡ free_pages trunks → IsFreelist pages all → next ≢ 0
    → ((trunk : Trunk) → trunk.number ≡ next → ¬ (Follows pages met trunk)) → (rest : List Trunk) → all ≡ trunks ++ rest → ¬ (AreTrunks pages next rest)
no_rest pages trunks all met next met_are h some none [] all_are linked = some linked
no_rest pages trunks all met next met_are h some none (t ∷ more) all_are linked =
    none t linked.0 (follows_of pages trunks all met t more met_are h all_are linked.1)

pub on_way_stops : (pages : Pages) (trunks : List Trunk) (met : List ℕ) (next : ℕ) → OnWay pages trunks met next → next ≢ 0
    → ((trunk : Trunk) → trunk.number ≡ next → ¬ (Follows pages met trunk)) → (all : List Trunk) → ¬ (IsFreelist pages all)
on_way_stops pages trunks met next w some none all h =
    let b = w.only all h in
    no_rest pages trunks all met next w.met_are h some none b.rest b.all_are b.linked

pub on_way_few : (pages : Pages) (trunks : List Trunk) (met : List ℕ) (next : ℕ) → OnWay pages trunks met next → length met ≤ pages.size
on_way_few pages trunks met next w =
    pigeons pages.size met w.different (λ n some. let is = w.free.each n some in (is.0.least, is.0.most))
