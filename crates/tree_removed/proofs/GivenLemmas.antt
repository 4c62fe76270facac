-- Pages that nothing names any more are given back.
use Rattle.std.proofs.Common.{◌≡◌, inl, inr, ℕ, ◌-◌, ◌≤◌, List, [], length, Some, sym, ap, subst, ◌∙◌, arith}
use Rattle.std.proofs.lemmas.List.{nil_from_length}
use Rattle.page_list.specs.Pages.{Pages, HasPage, IsGood, Among, AllDifferent, AreSized}
use Rattle.page_list.specs.Freelist.{Trunk, free_pages, give_each}
use Rattle.page_list.specs.Chain.{IsChain, pages_needed}
use Rattle.page_list.specs.Edits.{after_gives}
use Rattle.page_list.proofs.ChainLemmas.{one_chain_holds}
use Rattle.page_list.proofs.ManyLemmas.{gives_keep_holds}
use Rattle.page_list.proofs.TimesLemmas.{among-back}
use Rattle.tree_page.specs.declared.cell.LeafCell.{LeafCell}
use Rattle.tree_page.specs.Laws.{FrontApart}
use Rattle.tree_model.specs.Tree.{Tree}
use Rattle.tree_model.specs.Whole.{IsWholeFor, named_pages}
use Rattle.tree_laws.proofs.KeptLemmas.{head_front}
use Rattle.tree_laws.proofs.TakeLemmas.{whole_gives}
use Rattle.tree_put.specs.Keeps.{IsGiven}
use Rattle.tree_put.proofs.PreparedLemmas.{none_needed}
use Rattle.tree_put.proofs.WrittenLemmas.{Given}

-- different pages behind page 1, there and good, that nothing names
pub record AreUnnamed (pages : Pages) (numbers named : List ℕ) : Type 0 where
  pub different : AllDifferent numbers
  pub each : (n : ℕ) → Among numbers n → (2 ≤ n) × HasPage pages n × IsGood pages n
  pub unnamed : (n : ℕ) → Among numbers n → ¬ (Among named n)

pub record Gave (page_size : ℕ) (old new : Pages) (roots : List ℕ) (trees : List Tree) (trunks : List Trunk) (gone : List ℕ) : Type 0 where
  pub given : Given old new roots trees trunks gone
  pub sized : AreSized page_size new
  pub used : new.usable ≡ old.usable

pub gave : FrontApart → (page_size : ℕ) (old : Pages) (roots : List ℕ) (trees : List Tree) (trunks : List Trunk) (gone : List ℕ) → AreSized page_size old
    → IsWholeFor old roots trees trunks → AllDifferent gone → ((n : ℕ) → Among gone n → (2 ≤ n) × HasPage old n × IsGood old n)
    → ((n : ℕ) → Among gone n → ¬ (Among (named_pages roots trees trunks) n)) → Gave page_size old (after_gives page_size gone old) roots trees trunks gone
gave front_apart page_size old roots trees trunks gone sized whole different each unnamed =
    let gives = gives_keep_holds page_size old trunks gone sized whole.header.good whole.freelist
    (record { each = λ n some. ((each n some).0, (each n some).1, λ free. unnamed n some (among-back n _ (free_pages trunks) free)); different = different }) in
    record {
      given = record {
        trunks' = give_each old.usable gone trunks;
        whole = whole_gives front_apart gives_keep_holds page_size old roots trees trunks gone sized whole
            (record { each = λ n some. ((each n some).0, (each n some).1, unnamed n some); different = different }) (λ n some. (each n some).2);
        size = gives.size;
        free = λ n. omega (arith, gives.count n);
        others_stay = gives.leaves.others;
        front = head_front old _ gives.leaves.first sized.least;
      };
      sized = record {
        least = omega (arith, sized.least, gives.leaves.used);
        most = omega (arith, sized.most, gives.leaves.used);
        short = sized.short;
        few = omega (arith, sized.few, gives.size);
        each = gives.leaves.sized;
      };
      used = gives.leaves.used;
    }

-- the pages of a chain are those that are given back
pub chain_given : FrontApart → (page_size : ℕ) (old new : Pages) (roots : List ℕ) (trees : List Tree) (trunks : List Trunk) (gone rest : List ℕ) (cell : LeafCell)
    → AreSized page_size old → IsWholeFor old roots trees trunks → IsChain old cell.overflow gone rest → length rest ≡ cell.payload_len - length cell.local
    → ((n : ℕ) → Among gone n → 2 ≤ n) → ((n : ℕ) → Among gone n → ¬ (Among (named_pages roots trees trunks) n)) → IsGiven page_size old new (Some cell)
    → Given old new roots trees trunks gone
chain_given front_apart page_size old new roots trees trunks gone rest cell sized whole chain long above unnamed (inl none) =
    let short : length rest ≡ 0 = omega (arith, long, none.0) in
    let empty : gone ≡ [] = nil_from_length gone (chain.enough ∙ ap (λ len. pages_needed old.usable len) short ∙ none_needed old.usable sized.least) in
    let G : Pages → Type 0 = λ p. Given old p roots trees trunks gone in
    let L : List ℕ → Type 0 = λ l. Given old old roots trees trunks l in
    let nothing = gave front_apart page_size old roots trees trunks [] sized whole (record { once = λ n. omega arith }) (λ n some. absurd (omega (arith, some)))
    (λ n some. absurd (omega (arith, some))) in
    subst G (sym none.1) (subst L (sym empty) nothing.given)
chain_given front_apart page_size old new roots trees trunks gone rest cell sized whole chain long above unnamed (inr freed) =
    let same : freed.given ≡ gone = (one_chain_holds.one old cell.overflow freed.given gone freed.bytes rest freed.chain chain (freed.long ∙ sym long)).0 in
    let G : Pages → Type 0 = λ p. Given old p roots trees trunks gone in
    let given = gave front_apart page_size old roots trees trunks gone sized whole chain.walked.different
    (λ n some. (above n some, (chain.walked.each n some).0, (chain.walked.each n some).1)) unnamed in
    subst G (sym (freed.pages_are ∙ ap (λ (l : List ℕ). after_gives page_size l old) same)) given.given
