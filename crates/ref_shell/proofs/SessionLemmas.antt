-- Runs, line by line.
use Rattle.std.proofs.Common.{◌≡◌, ◌≢◌, ℕ, List, [], ◌∷◌, ◌++◌, append_assoc, length, arith, refl, ap, sym, ◌∙◌, subst}
use Rattle.std.specs.Prelude.{Result, Ok, Err, OnOk}
use Rattle.std.specs.List.{flat_map, AllZip}
use Rattle.std.proofs.lemmas.Grind.{flat_map-append}
use Rattle.std.proofs.lemmas.List.Elements.{All-push}
use Rattle.shell_lang.specs.declared.command.Command.TheVariants as command
use Rattle.shell_lang.specs.declared.reply.Reply.{Reply}
use Rattle.shell_lang.specs.declared.reply.Reply.TheVariants as reply
use Rattle.shell_lang.specs.Reply.{ended, text_of}
use Rattle.book_model.specs.Book.{Book}
use Rattle.shell_model.specs.State.{State, closed, opened}
use Rattle.shell_model.specs.Run.{HasNoFeed, last_line, Line, said, IsLine, Answers, RunFrom, RunsTo}
use Rattle.shell_laws.proofs.CommandLemmas.{reopen_step}
use Rattle.ref_shell.specs.Session.{LineRun, RunSoFar, IsFedLine}

-- a run goes on with a line more
one_more : (s : State) (lines : List Line) (answers : List Reply) (mid : State) (line : Line) (answer : Reply) (end : State) → RunFrom s lines answers mid → Answers mid line answer end →
    RunFrom s (lines ++ line ∷ []) (answers ++ answer ∷ []) end
one_more s [] [] mid line answer end run answered = (end, subst (λ (m : State). Answers m line answer end) run answered, refl)
one_more s [] (a ∷ answers) mid line answer end run answered = absurd run
one_more s (l ∷ lines) [] mid line answer end run answered = absurd run
one_more s (l ∷ lines) (a ∷ answers) mid line answer end run answered = (run.0, run.1, one_more run.0 lines answers mid line answer end run.2 answered)

zip_push : {A B : Type 0} (R : A → B → Type 0) (xs : List A) (ys : List B) (x : A) (y : B) → AllZip R xs ys → R x y → AllZip R (xs ++ x ∷ []) (ys ++ y ∷ [])
zip_push R [] [] x y all holds = (holds, tt)
zip_push R [] (b ∷ ys) x y all holds = absurd all
zip_push R (a ∷ xs) [] x y all holds = absurd all
zip_push R (a ∷ xs) (b ∷ ys) x y all holds = (all.0, zip_push R xs ys x y all.1 holds)

flat_push : {X : Type 0} (f : X → List ℕ) (xs : List X) (x : X) → flat_map f (xs ++ x ∷ []) ≡ flat_map f xs ++ f x
flat_push f xs x = flat_map-append f xs (x ∷ []) ∙ ap (λ ys. flat_map f xs ++ ys) (append_nil (f x))
  where
    append_nil : (xs : List ℕ) → xs ++ [] ≡ xs
    append_nil [] = refl
    append_nil (x ∷ xs) = ap (λ ys. x ∷ ys) (append_nil xs)

-- the opening
pub run_begins : (book : Book) (input text : List ℕ) (now : State) (answer : Reply) → answer ≡ reply.Open book.counter → now ≡ opened book → text ≡ text_of answer → RunSoFar book input input text now
run_begins book input text now answer opens is text_is = record {
  fed = [];
  whole = refl;
  each = λ k d below. absurd (omega arith);
  read = [];
  are = tt;
  answers = answer ∷ [];
  run = (opened book, subst (λ (r : Reply). Answers (closed book) (said 1 command.Reopen) r (opened book)) (sym opens) (reopen_step (closed book) 1), is);
  text_is = text_is ∙ sym (flat_push text_of [] answer);
}

-- a line that ends with a line feed
pub run_goes : (book : Book) (input rest more line text text' : List ℕ) (now next : State) → RunSoFar book input rest text now → IsFedLine rest line more → LineRun now line text text' next → RunSoFar book input more text' next
run_goes book input rest more line text text' now next sofar fed ran = record {
  fed = sofar.fed ++ line ∷ [];
  whole = sofar.whole ∙ (ap (λ xs. flat_map ended sofar.fed ++ xs) fed.whole ∙ (sym (append_assoc (flat_map ended sofar.fed) (ended line) more) ∙ ap (λ xs. xs ++ more) (sym (flat_push ended sofar.fed line))));
  each = All-push HasNoFeed sofar.fed line sofar.each fed.unfed;
  read = sofar.read ++ ran.line_is.line ∷ [];
  are = zip_push IsLine sofar.fed sofar.read line ran.line_is.line sofar.are ran.line_is.is;
  answers = sofar.answers ++ ran.answer ∷ [];
  run = one_more (closed book) (said 1 command.Reopen ∷ sofar.read) sofar.answers now ran.line_is.line ran.answer next sofar.run ran.line_is.answered;
  text_is = ran.text ∙ (ap (λ xs. xs ++ text_of ran.answer) sofar.text_is ∙ sym (flat_push text_of sofar.answers ran.answer));
}

-- the end, with nothing behind the last line feed
pub run_ends : (book : Book) (input rest text : List ℕ) (now : State) → RunSoFar book input rest text now → rest ≡ [] → RunsTo book input text now
run_ends book input rest text now sofar none = record {
  lines = sofar.fed;
  cut = record { fed = sofar.fed; rest = []; whole = sofar.whole ∙ ap (λ xs. flat_map ended sofar.fed ++ xs) none; each = sofar.each; unfed = λ k d below. absurd (omega arith); are = sym (append_none sofar.fed) };
  read = sofar.read;
  each = sofar.are;
  answers = sofar.answers;
  run = sofar.run;
  text_is = sofar.text_is;
}
  where
    append_none : (xs : List (List ℕ)) → xs ++ [] ≡ xs
    append_none [] = refl
    append_none (x ∷ xs) = ap (λ ys. x ∷ ys) (append_none xs)

-- the end, with a last line that no line feed ends
pub run_ends_unfed : (book : Book) (input rest text text' : List ℕ) (now next : State) → RunSoFar book input rest text now → rest ≢ [] → HasNoFeed rest → LineRun now rest text text' next → RunsTo book input text' next
run_ends_unfed book input rest text text' now next sofar some unfed ran = record {
  lines = sofar.fed ++ rest ∷ [];
  cut = record { fed = sofar.fed; rest = rest; whole = sofar.whole; each = sofar.each; unfed = unfed; are = ap (λ xs. sofar.fed ++ xs) (one_line rest some) };
  read = sofar.read ++ ran.line_is.line ∷ [];
  each = zip_push IsLine sofar.fed sofar.read rest ran.line_is.line sofar.are ran.line_is.is;
  answers = sofar.answers ++ ran.answer ∷ [];
  run = one_more (closed book) (said 1 command.Reopen ∷ sofar.read) sofar.answers now ran.line_is.line ran.answer next sofar.run ran.line_is.answered;
  text_is = ran.text ∙ (ap (λ xs. xs ++ text_of ran.answer) sofar.text_is ∙ sym (flat_push text_of sofar.answers ran.answer));
}
  where
    one_line : (rest : List ℕ) → rest ≢ [] → rest ∷ [] ≡ last_line rest
    one_line [] some = absurd (some refl)
    one_line (b ∷ bytes) some = refl

-- what follows from an answer that was done
pub on_ok : {A E P Q : Type 0} (r : Result A E) → (P → Q) → OnOk r P → OnOk r Q
on_ok (Ok a) then done = then done
on_ok (Err e) then done = done

pub no_length : (xs : List ℕ) → length xs ≡ 0 → xs ≡ []
no_length [] none = refl
no_length (x ∷ xs) none = absurd (omega arith)
