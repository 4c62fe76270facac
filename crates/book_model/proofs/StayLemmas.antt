-- The book of pages whose named pages hold what they held.
use Rattle.std.proofs.Common.{◌≡◌, ℕ, zero, suc, ◌*◌, ◌≤◌, List, [], ◌∷◌, map, reverse, None, refl, sym, ap, subst, ◌∙◌, arith}
use Rattle.std.proofs.lemmas.Bool.Decides.{nat_tests}
use Rattle.std.proofs.lemmas.List.{reverse-append}
use Rattle.std.specs.List.{AllByRecursion, AllZip}
use Rattle.byte_base.specs.Numbers.{number_at}
use Rattle.page_list.specs.Pages.{Pages, SamePage, times, Among}
use Rattle.page_list.proofs.ChainLemmas.{times-append}
use Rattle.db_format.specs.Header.{page_of, greatest_length, fields_of}
use Rattle.db_format.specs.Schema.{tables_in, IsTableOf, HasRootWithin}
use Rattle.db_format.proofs.HeaderLemmas.{none_accepted}
use Rattle.tree_model.specs.Whole.{HasHeader, unsized_header, named_pages}
use Rattle.tree_model.specs.Laws.{Keeps, Admits, WholeStays}
use Rattle.tree_model.proofs.SizeLemmas.{no_fault}
use Rattle.tree_model.proofs.WholeLemmas.{one_named}
use Rattle.tree_laws.specs.Whole.{missing_in}
use Rattle.tree_laws.proofs.RangeLemmas.{named_there}
use Rattle.book_model.specs.Laws.{BookStays}

-- as many pages as there are are not too many
admits : (old new : Pages) → HasHeader old → new.size ≡ old.size → Admits old new
admits old new has same =
    let len : ℕ = page_of (unsized_header old) * old.size in
    let small = (none_accepted (unsized_header old) len None (no_fault _ (fields_of (unsized_header old) len) has.accepted)).small in
    let most : len ≤ greatest_length = grind (arith, nat_tests, small) in
    let P : ℕ → Type 0 = λ n. page_of (unsized_header old) * n ≤ greatest_length in
    (omega (arith, same), subst P (sym same) most)

-- a page that is named is none of those that are not
missing_unnamed : (named : List ℕ) (size n : ℕ) → Among named n → times n (missing_in named size) ≡ 0
missing_unnamed named zero n some = refl
missing_unnamed named (suc size) n some =
    let rest = missing_unnamed named size n some in
    grind (arith, nat_tests, rest, some)

times-reverse : (n : ℕ) (xs : List ℕ) → times n (reverse xs) ≡ times n xs
times-reverse n [] = refl
times-reverse n (x ∷ xs) = ap (times n) (reverse-append (x ∷ []) xs) ∙ omega (arith, times-reverse n xs, times-append n (reverse xs) (x ∷ []))

-- the numbers of pages, each with its bytes
numbers_of : {X : Type 0} (f : ℕ → X) (xs : List ℕ) → map (λ (page : ℕ × X). page.0) (map {B = ℕ × X} (λ n. (n, f n)) xs) ≡ xs
numbers_of f [] = refl
numbers_of f (x ∷ xs) = ap (λ (l : List ℕ). x ∷ l) (numbers_of f xs)

other_bytes : {X : Type 0} (f g : ℕ → X) (xs : List ℕ) → map {B = ℕ × X} (λ page. (page.0, g page.0)) (map {B = ℕ × X} (λ n. (n, f n)) xs) ≡ map {B = ℕ × X} (λ n. (n, g n)) xs
other_bytes f g [] = refl
other_bytes {X} f g (x ∷ xs) = ap (λ (l : List (ℕ × X)). (x, g x) ∷ l) (other_bytes f g xs)

pub book_stays : WholeStays → BookStays
book_stays stays old new book is size usable same =
    let roots : List ℕ = 1 ∷ map (λ table. table.root) (tables_in is.found) in
    let named : List ℕ = named_pages roots (is.schema ∷ is.trees) is.trunks in
    let missing : List ℕ = reverse (missing_in named old.size) in
    let whole = is.whole.whole in
    let there = named_there old roots (is.schema ∷ is.trees) is.trunks whole in
    let numbers : map (λ (page : ℕ × List ℕ). page.0) book.unnamed ≡ missing = ap (map (λ (page : ℕ × List ℕ). page.0)) is.unnamed_are ∙ numbers_of old.bytes missing in
    let not_missing : (n : ℕ) → Among named n → ¬ (Among (map (λ (page : ℕ × List ℕ). page.0) book.unnamed) n) =
    λ n some bad. let P : List ℕ → Type 0 = λ l. Among l n in
    let here = subst P numbers bad in
    omega (arith, here, times-reverse n (missing_in named old.size), missing_unnamed named old.size n some) in
    let kept : (n : ℕ) → Among named n → SamePage old new n = λ n some. same n (there n some) (not_missing n some) in
    let keeps : Keeps old new (Among named) = record { used = usable; there = λ n some has. record { least = has.least; most = omega (arith, has.most, size) }; same = kept } in
    let one = (kept 1 (one_named old roots (is.schema ∷ is.trees) is.trunks whole.each_tree)).bytes_stay in
    let S : ℕ → Type 0 = λ n. AllByRecursion (HasRootWithin n) is.rows in
    let T : ℕ → Type 0 = λ n. AllZip (IsTableOf n is.rows) is.rows is.found in
    record {
      schema = is.schema;
      rows = is.rows;
      found = is.found;
      trees = is.trees;
      trunks = is.trunks;
      whole = record {
        whole = stays old new roots (is.schema ∷ is.trees) is.trunks whole keeps (admits old new whole.header size);
        schema_rows = is.whole.schema_rows;
        five = is.whole.five;
        roots_within = subst S (sym size) is.whole.roots_within;
        plain = subst T (sym size) is.whole.plain;
        once = is.whole.once;
        records = is.whole.records;
      };
      tables = is.tables;
      each = is.each;
      tables_are = is.tables_are;
      foreign_are = is.foreign_are;
      schema_is = is.schema_is;
      unnamed_are = ap (map {B = ℕ × List ℕ} (λ (page : ℕ × List ℕ). (page.0, new.bytes page.0))) is.unnamed_are ∙ other_bytes old.bytes new.bytes missing
          ∙ ap (λ n. map {B = ℕ × List ℕ} (λ n. (n, new.bytes n)) (reverse (missing_in named n))) (sym size);
      counter_is = is.counter_is ∙ sym (ap (λ (b : List ℕ). number_at 4 b 24) one);
      pages_are = is.pages_are ∙ sym size;
      free_are = is.free_are;
      page_is = is.page_is ∙ sym (ap page_of one);
      usable_is = is.usable_is ∙ sym usable;
    }
