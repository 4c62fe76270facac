-- A put and a get of its row.
use Rattle.std.proofs.Common.{◌≡◌, ℕ, ℤ, Bool, true, false, cond, ◌⊎◌, inl, inr, List, [], ◌∷◌, Option, Some, None, refl, ap, sym, ◌∙◌, subst, arith, not}
use Rattle.std.specs.Prelude.{unwrap_or}
use Rattle.std.specs.FinMap as map
use Rattle.std.proofs.lemmas.Bool.{cases_Bool, and_left, MatchBool-at_true, MatchBool-at_false}
use Rattle.std.proofs.lemmas.Bool.Decides.{nat_tests}
use Rattle.vfs_model.specs.declared.level.Level.TheVariants.{Shared}
use Rattle.db_format.specs.declared.value.Value.{Value}
use Rattle.shell_lang.specs.declared.command.TableName.{TableName}
use Rattle.shell_lang.specs.declared.command.Command.TheVariants as command
use Rattle.shell_lang.specs.declared.reply.Reply.{Reply}
use Rattle.shell_lang.specs.declared.reply.Reply.TheVariants as reply
use Rattle.book_model.specs.Book.{Book, Row, table_at, is_plain, is_foreign, has_row, with_row}
use Rattle.shell_model.specs.State.{State, Draft, seen, own, own_of, without_own, committed_book, is_inside, is_refused, committed, drafted}
use Rattle.shell_model.specs.Cases.{Pick, Allows, cases_of, sized, changing, row_reply}
use Rattle.shell_model.specs.Step.{Step, is_free}
use Rattle.shell_model.specs.Run.{Line}
use Rattle.shell_laws.specs.Laws.{HasRow, is_put, PutShows, is_told, QuietFrom}
use Rattle.shell_laws.proofs.CaseLemmas.{LeadsTo, leads}
use Rattle.shell_laws.proofs.BookLemmas.{has_put, plain_is_not_foreign}

-- what a change leaves that was done: the draft inside a transaction, and the kept book outside
record Changed (s : State) (who : ℕ) (book : Book) (next : State) : Type 0 where
  drafts : is_inside s who ≡ true → next ≡ drafted s who book
  commits : is_inside s who ≡ false → next ≡ committed s who book

put_is_done : (there : Bool) → is_put (cond there reply.Replaced reply.New) ≡ true
put_is_done true = refl
put_is_done false = refl

changed : (s : State) (who : ℕ) (book : Book) (said answer : Reply) (next : State) → LeadsTo is_put (changing s who book said) answer next → is_put said ≡ true → Changed s who book next
changed s who book said answer next led passed =
    let inside_or = MatchBool-at_true _ _ passed led in
    record {
      drafts = λ inside. (MatchBool-at_true _ _ inside inside_or).1;
      commits = λ outside. (MatchBool-at_true _ _ passed (MatchBool-at_false _ _ outside inside_or).1.1).1;
    }

-- an acknowledged put changes the book that its connection sees
put_changes : (pick : Pick) (s : State) (who : ℕ) (table : TableName) (rowid : ℤ) (values : List Value) (answer : Reply) (next : State) →
    Allows (cases_of pick s who (command.Put table rowid values)) answer next → is_put answer ≡ true → Changed s who (sized pick (with_row (seen s who) table.name rowid values)) next
put_changes pick s who table rowid values answer next allowed put =
    let led = leads is_put (cases_of pick s who (command.Put table rowid values)) answer next allowed put in
    let there = has_row (seen s who) table.name rowid in
    changed s who _ (cond there reply.Replaced reply.New) answer next led.1.1.1.1.1.1.1 (put_is_done there)

-- the draft of a connection is what it sees
own_draft : (who : ℕ) (book : Book) → own_of (Some (record { owner = who; book = book })) who ≡ Some book
own_draft who book = grind (arith, nat_tests)

-- a connection that has ended has none
own-without_own : (draft : Option Draft) (who : ℕ) → own_of (without_own draft who) who ≡ None
own-without_own None who = refl
own-without_own (Some draft) who = grind (arith, nat_tests)

pub put_shows : (s : State) (who : ℕ) (table : TableName) (rowid : ℤ) (values : List Value) (answer : Reply) (next : State) →
    Step s who (command.Put table rowid values) answer next → is_put answer ≡ true → PutShows s who table.name rowid values next
put_shows s who table rowid values answer next step put =
    let book = sized step.pick (with_row (seen s who) table.name rowid values) in
    let has = has_put step.pick (seen s who) table.name rowid values in
    let does = put_changes step.pick s who table rowid values answer next step.allowed put in
    let kept : HasRow (committed_book s.kept book) table.name rowid values = record { plain = has.plain; row = has.row } in
    record {
      here = elim (cases_Bool (is_inside s who)) [
        | inl inside ↦ subst (λ (n : State). HasRow (seen n who) table.name rowid values) (sym (does.drafts inside)) (rw (own_draft who book) has)
        | inr outside ↦ subst (λ (n : State). HasRow (seen n who) table.name rowid values) (sym (does.commits outside)) (rw (own-without_own s.draft who) kept)
      ];
      kept = λ outside. subst (λ (n : State). HasRow n.kept table.name rowid values) (sym (does.commits outside)) kept;
    }

abbrev pub is_bound : Reply → Bool
is_bound answer = not (is_free answer)

row_is_bound : (rowid : ℤ) (found : Option Row) → is_bound (row_reply rowid found) ≡ true
row_is_bound rowid None = refl
row_is_bound rowid (Some row) = refl

-- a get of a row that is seen
pub get_tells : (s : State) (who : ℕ) (table : TableName) (rowid : ℤ) (values : List Value) (answer : Reply) (next : State) →
    HasRow (seen s who) table.name rowid values → s.stopped ≡ false → Step s who (command.Get table rowid) answer next →
    is_free answer ≡ false → (answer ≡ reply.Row rowid values) ⊎ (answer ≡ reply.Busy)
get_tells s who table rowid values answer next has goes step bound =
    let led = leads is_bound (cases_of step.pick s who (command.Get table rowid)) answer next step.allowed (ap not bound) in
    let going = MatchBool-at_false _ _ goes led in
    elim (cases_Bool (is_refused s.levels who Shared)) [
      | inl refused ↦ inr (MatchBool-at_true _ _ refused going).0
      | inr granted ↦
          let there = MatchBool-at_false _ _ (and_left (not (is_plain (seen s who) table.name)) (not (is_foreign (seen s who) table.name)) (ap not has.plain)) (MatchBool-at_false _ _ granted going) in
          let plain = MatchBool-at_false _ _ (plain_is_not_foreign (seen s who) table.name has.plain) there in
          let found = map.get (table_at (seen s who) table.name).rows rowid in
          inl ((MatchBool-at_true _ _ (row_is_bound rowid found) plain).0 ∙ ap (row_reply rowid) has.row)
    ]

row_is_told : (rowid : ℤ) (found : Option Row) → is_told (row_reply rowid found) ≡ true
row_is_told rowid None = refl
row_is_told rowid (Some row) = refl

-- a get that is told a row or that there is none
told_row : (s : State) (who : ℕ) (table : TableName) (rowid : ℤ) (values : List Value) (answer : Reply) (next : State) →
    HasRow (seen s who) table.name rowid values → Step s who (command.Get table rowid) answer next → is_told answer ≡ true → answer ≡ reply.Row rowid values
told_row s who table rowid values answer next has step told =
    let led = leads is_told (cases_of step.pick s who (command.Get table rowid)) answer next step.allowed told in
    let found = map.get (table_at (seen s who) table.name).rows rowid in
    (MatchBool-at_true _ _ (row_is_told rowid found) led.1.1.1.1).0 ∙ ap (row_reply rowid) has.row

-- lines that change no kept book
quiet_keeps : (s : State) (lines : List Line) (answers : List Reply) (end : State) → QuietFrom s lines answers end → end.kept ≡ s.kept
quiet_keeps s [] [] end quiet = ap (λ (n : State). n.kept) quiet
quiet_keeps s [] (answer ∷ answers) end quiet = absurd quiet
quiet_keeps s (line ∷ lines) [] end quiet = absurd quiet
quiet_keeps s (line ∷ lines) (answer ∷ answers) end quiet = quiet_keeps quiet.0 lines answers end quiet.3 ∙ quiet.2

pub later_get : (s : State) (who reader : ℕ) (table : TableName) (rowid : ℤ) (values : List Value) (lines : List Line) (put answer : Reply) (answers : List Reply) (next mid end : State) →
    is_inside s who ≡ false → Step s who (command.Put table rowid values) put next → is_put put ≡ true → QuietFrom next lines answers mid →
    own mid reader ≡ None → Step mid reader (command.Get table rowid) answer end → is_told answer ≡ true → answer ≡ reply.Row rowid values
later_get s who reader table rowid values lines put answer answers next mid end outside puts done quiet undrafted gets told =
    let kept = (put_shows s who table rowid values put next puts done).kept outside in
    let sees : seen mid reader ≡ next.kept = ap (λ (o : Option Book). unwrap_or o mid.kept) undrafted ∙ quiet_keeps next lines answers mid quiet in
    told_row mid reader table rowid values answer end (subst (λ (b : Book). HasRow b table.name rowid values) (sym sees) kept) gets told
