-- The words that name one database, and those that are refused.
use Rattle.std.proofs.Common.{◌≡◌, ◌≢◌, ℕ, ◌≤◌, ◌<◌, List, [], ◌∷◌, length, map, get_or, Option, Some, None, MatchOption, sym, ap, subst, ◌∙◌, arith}
use Rattle.std.proofs.lemmas.List.{length-map}
use Rattle.shell_words.specs.Plan.{IsDatabaseName, plain_words, NameWords, OneWord}
use Rattle.shell_top.specs.Words.{AreWords, AreRefused}

-- a list of one item is that item
one_item : {A : Type 0} (items : List A) (item : A) → 1 ≤ length items → length items < 2 → item ≡ get_or items 0 item → items ≡ item ∷ []
one_item [] item some few is = absurd (omega (arith, some))
one_item (first ∷ []) item some few is = ap (λ x. x ∷ []) (sym is)
one_item (first ∷ other ∷ more) item some few is = absurd (omega (arith, few))

-- fewer words than one are refused, and so are more
pub not_one : {A : Type 0} (bytes_of : A → List ℕ) (items : List A) → length items ≢ 1 → AreRefused (map bytes_of items)
not_one bytes_of items other = record { each = λ name are. other (sym (length-map items bytes_of) ∙ ap length are.one) }

-- one word is read as a database's name, or as none
read_one : (words : List (List ℕ)) (word : List ℕ) (result : Option (List ℕ)) → OneWord → words ≡ word ∷ [] → MatchOption result (¬ (IsDatabaseName word)) (λ name. (name ≡ word) × IsDatabaseName word)
    → MatchOption result (AreRefused words) (AreWords words)
read_one words word None law one no_name =
    record { each = λ name are. no_name (law.alone word (plain_words name) (subst (λ (w : List (List ℕ)). NameWords w (plain_words name)) one are.names)).0 }
read_one words word (Some name) law one named = record {
  one = one ∙ ap (λ w. w ∷ []) (sym named.0);
  names = subst (λ (w : List (List ℕ)). NameWords w (plain_words name)) (sym one)
      (subst (λ (n : List ℕ). NameWords (word ∷ []) (plain_words n)) (sym named.0) (law.names word named.1));
}

pub read_only : {A : Type 0} (bytes_of : A → List ℕ) (items : List A) (item : A) (word : List ℕ) (result : Option (List ℕ)) → OneWord → 1 ≤ length items → length items < 2 → item ≡ get_or items 0 item
    → word ≡ bytes_of item → MatchOption result (¬ (IsDatabaseName word)) (λ name. (name ≡ word) × IsDatabaseName word)
    → MatchOption result (AreRefused (map bytes_of items)) (AreWords (map bytes_of items))
read_only bytes_of items item word result law some few is same answer =
    read_one (map bytes_of items) word result law (ap (map bytes_of) (one_item items item some few is) ∙ ap (λ w. w ∷ []) (sym same)) answer
