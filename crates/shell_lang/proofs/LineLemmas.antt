-- Lines as they are read: the number in front, and one command a line.
use Rattle.std.proofs.Common.{◌≡◌, ◌⊎◌, inl, inr, ℕ, ◌≤◌, ◌^◌, List, [], ◌∷◌, ◌++◌, refl, sym, ap, ◌∙◌, subst, drop, arith, ◌<◌, All, IsUtf8, Some, slice_get}
use Rattle.std.specs.Fmt.{decimal}
use Rattle.std.specs.List.{slice_split}
use Rattle.std.proofs.lemmas.Fmt.{decimal_injective}
use Rattle.shell_lang.specs.declared.command.Command.{Command}
use Rattle.shell_lang.specs.Command.{SpellsCommand, SpellsLine, IsBadLine, IsWord, NamesConnection, NamesNone, joined}
use Rattle.shell_lang.specs.CommandSteps.{is_blank, BeginsWith, IsNamed, IsUnnamed, IsMisnamed}
use Rattle.shell_lang.proofs.ReadLemmas.{words_join, words_again, words_unbroken, decimal_no_blank, first_blank}
use Rattle.shell_lang.proofs.CommandLemmas.{unmarked, some_words, words_have, words_once}

-- the parts of a text that give a command are words
words_each : (text : List ℕ) (c : Command) → SpellsCommand (slice_split is_blank text) c → All IsWord (slice_split is_blank text)
words_each text c s = λ k d within. record {
  some = words_have (slice_split is_blank text) c s k d within;
  unbroken = words_unbroken text k d within;
}

names : (line text : List ℕ) (number : ℕ) → (IsNamed line number text ⊎ IsUnnamed line number text)
    → (NamesConnection line number (slice_split is_blank text) ⊎ NamesNone line number (slice_split is_blank text))
names line text number (inl n) = inl (record {
  short = n.begins.short;
  spelled = n.marked ∙ ap (λ (l : List ℕ). 64 ∷ l) (n.begins.spelled ∙ ap (λ t. decimal number ++ 32 ∷ t) (sym (words_join text)));
})
names line text number (inr n) = inr (record { first = n.first; spelled = sym n.whole ∙ sym (words_join text) })

pub line_found : (line text : List ℕ) (number : ℕ) (c : Command) → IsUtf8 line → (IsNamed line number text ⊎ IsUnnamed line number text)
    → SpellsCommand (slice_split is_blank text) c → SpellsLine line number c
line_found line text number c utf8 connection s = record {
  words = slice_split is_blank text;
  each = words_each text c s;
  utf8 = utf8;
  connection = names line text number connection;
  command_is = s;
}

-- a number in front is one, and so is the text behind it
numbers_meet : (named text text' : List ℕ) (n m : ℕ) → BeginsWith named n text → m ≤ 999 → named ≡ decimal m ++ 32 ∷ text' → (n ≡ m) × (text ≡ text')
numbers_meet named text text' n m begins small is =
    let low : n ≤ 999 = begins.short in
    let low' : n < 2 ^ 64 = omega (arith, low) in
    let small' : m < 2 ^ 64 = omega (arith, small) in
    let both = first_blank (decimal n) (decimal m) text text' (decimal_no_blank n low') (decimal_no_blank m small') (sym begins.spelled ∙ is) in
    (decimal_injective n m low' small' both.0, both.1)

-- where the number and the text were told, a line's words are the text's
words_are : (line text : List ℕ) (number m : ℕ) (d : Command) → (IsNamed line number text ⊎ IsUnnamed line number text) → (s : SpellsLine line m d)
    → (NamesConnection line m s.words ⊎ NamesNone line m s.words) → (number ≡ m) × (text ≡ joined s.words)
words_are line text number m d (inl n) s (inl k) =
    let e : 64 ∷ n.named ≡ 64 ∷ (decimal m ++ 32 ∷ joined s.words) = sym n.marked ∙ k.spelled in
    let named_is : n.named ≡ decimal m ++ 32 ∷ joined s.words = cc (e) in
    numbers_meet n.named text (joined s.words) number m n.begins k.short named_is
words_are line text number m d (inl n) s (inr k) = absurd (unmarked s.words d line n.named s.command_is k.spelled n.marked)
words_are line text number m d (inr n) s (inl k) = absurd (n.other (ap (λ l. slice_get l 0) k.spelled))
words_are line text number m d (inr n) s (inr k) = (n.first ∙ sym k.first, n.whole ∙ k.spelled)

split_is : (line text : List ℕ) (number m : ℕ) (d : Command) → (IsNamed line number text ⊎ IsUnnamed line number text) → (s : SpellsLine line m d)
    → (number ≡ m) × (slice_split is_blank text ≡ s.words)
split_is line text number m d connection s =
    let both = words_are line text number m d connection s s.connection in
    (both.0, ap (slice_split is_blank) both.1 ∙ words_again s.words (some_words s.words d s.command_is) s.each)

pub line_bad : (line text : List ℕ) (number : ℕ) → (IsNamed line number text ⊎ IsUnnamed line number text)
    → ((c : Command) → ¬ (SpellsCommand (slice_split is_blank text) c)) → IsBadLine line
line_bad line text number connection none = record {
  none = λ m d s. none d (subst (λ ws. SpellsCommand ws d) (sym (split_is line text number m d connection s).1) s.command_is);
}

misnamed_by : (line : List ℕ) (mis : IsMisnamed line) (m : ℕ) (d : Command) (s : SpellsLine line m d) → (NamesConnection line m s.words ⊎ NamesNone line m s.words) → ⊥
misnamed_by line mis m d s (inl k) =
    let e : 64 ∷ mis.named ≡ 64 ∷ (decimal m ++ 32 ∷ joined s.words) = sym mis.marked ∙ k.spelled in
    let named_is : mis.named ≡ decimal m ++ 32 ∷ joined s.words = cc (e) in
    mis.none m (joined s.words) (record { short = k.short; spelled = named_is })
misnamed_by line mis m d s (inr k) = unmarked s.words d line mis.named s.command_is k.spelled mis.marked

pub line_misnamed : (line : List ℕ) → IsMisnamed line → IsBadLine line
line_misnamed line mis = record { none = λ m d s. misnamed_by line mis m d s s.connection }

pub line_no_text : (line : List ℕ) → ¬ (IsUtf8 line) → IsBadLine line
line_no_text line none = record { none = λ m d s. none s.utf8 }

marked_by : (line : List ℕ) → slice_get line 0 ≡ Some 64 → line ≡ 64 ∷ drop 1 line
marked_by [] e = absurd (cc)
marked_by (b ∷ bs) e = let is : b ≡ 64 = cc in ap (λ x. x ∷ bs) is

-- a line gives one command
connection_of : (line : List ℕ) (number : ℕ) (c : Command) (s : SpellsLine line number c) → (NamesConnection line number s.words ⊎ NamesNone line number s.words)
    → (IsNamed line number (joined s.words) ⊎ IsUnnamed line number (joined s.words))
connection_of line number c s (inl k) = inl (record {
  named = decimal number ++ 32 ∷ joined s.words;
  marked = k.spelled;
  begins = record { short = k.short; spelled = refl };
})
connection_of line number c s (inr k) = inr (record {
  first = k.first;
  whole = sym k.spelled;
  other = λ e. unmarked s.words c line (drop 1 line) s.command_is k.spelled (marked_by line e);
})

pub one_command : (line : List ℕ) (n m : ℕ) (c d : Command) → SpellsLine line n c → SpellsLine line m d → (n ≡ m) × (c ≡ d)
one_command line n m c d s r =
    let both = split_is line (joined s.words) n m d (connection_of line n c s s.connection) r in
    let words_is : s.words ≡ r.words = sym (words_again s.words (some_words s.words c s.command_is) s.each) ∙ both.1 in
    (both.0, words_once r.words c d (subst (λ ws. SpellsCommand ws c) words_is s.command_is) r.command_is)
