-- Runs of the same bytes.
use Rattle.std.proofs.Common.{◌≡◌, ℕ, List, [], ◌∷◌, ◌++◌, append_assoc, append-nil, refl, ap, sym, ◌∙◌, subst}
use Rattle.std.specs.List.{flat_map, AllZip}
use Rattle.std.proofs.lemmas.Grind.{flat_map-append}
use Rattle.std.proofs.lemmas.List.Elements.{All-push}
use Rattle.shell_lang.specs.declared.command.Command.{Command}
use Rattle.shell_lang.specs.declared.reply.Reply.{Reply}
use Rattle.shell_lang.specs.Command.{OneCommand}
use Rattle.shell_lang.specs.Reply.{ended, text_of, OneCut}
use Rattle.shell_model.specs.Run.{HasNoFeed, last_line, AreLines, Line, said, bad, IsLine, Run}
use Rattle.shell_laws.specs.Agree.{TextsAgree}
use Rattle.shell_laws.proofs.RunLemmas.{runs_agree}

-- with a line feed behind it an input is its lines, each ended
fed_whole : (input : List ℕ) (lines : List (List ℕ)) (cut : AreLines input lines) → flat_map ended (cut.fed ++ cut.rest ∷ []) ≡ input ++ 10 ∷ []
fed_whole input lines cut =
    flat_map-append ended cut.fed (cut.rest ∷ [])
    ∙ (ap (λ l. flat_map ended cut.fed ++ l) (append-nil (ended cut.rest)) ∙ (sym (append_assoc (flat_map ended cut.fed) cut.rest (10 ∷ [])) ∙ ap (λ l. l ++ 10 ∷ []) (sym cut.whole)))

-- the list of lists without its last, and the last
pushed : (xs ys : List (List ℕ)) (x y : List ℕ) → xs ++ x ∷ [] ≡ ys ++ y ∷ [] → (xs ≡ ys) × (x ≡ y)
pushed [] [] x y is = (refl, head x y [] [] is)
  where
    head : (x y : List ℕ) (xs ys : List (List ℕ)) → x ∷ xs ≡ y ∷ ys → x ≡ y
    head x y xs ys is = cc
pushed [] (y' ∷ []) x y is = absurd (cc)
pushed [] (y' ∷ z ∷ ys) x y is = absurd (cc)
pushed (x' ∷ []) [] x y is = absurd (cc)
pushed (x' ∷ z ∷ xs) [] x y is = absurd (cc)
pushed (x' ∷ xs) (y' ∷ ys) x y is =
    let rest = pushed xs ys x y (tails x' y' (xs ++ x ∷ []) (ys ++ y ∷ []) is) in
    (ap (λ l. l ∷ xs) (heads x' y' (xs ++ x ∷ []) (ys ++ y ∷ []) is) ∙ ap (λ l. y' ∷ l) rest.0, rest.1)
  where
    heads : (x y : List ℕ) (xs ys : List (List ℕ)) → x ∷ xs ≡ y ∷ ys → x ≡ y
    heads x y xs ys is = cc

    tails : (x y : List ℕ) (xs ys : List (List ℕ)) → x ∷ xs ≡ y ∷ ys → xs ≡ ys
    tails x y xs ys is = cc

same_lines : OneCut → (input : List ℕ) (lines lines' : List (List ℕ)) → AreLines input lines → AreLines input lines' → lines' ≡ lines
same_lines one_cut input lines lines' cut cut' =
    let all = one_cut (cut'.fed ++ cut'.rest ∷ []) (cut.fed ++ cut.rest ∷ []) (All-push HasNoFeed cut'.fed cut'.rest cut'.each cut'.unfed)
    (All-push HasNoFeed cut.fed cut.rest cut.each cut.unfed) (fed_whole input lines' cut' ∙ sym (fed_whole input lines cut)) in
    let both = pushed cut'.fed cut.fed cut'.rest cut.rest all in
    cut'.are ∙ (ap (λ l. l ++ last_line cut'.rest) both.0 ∙ (ap (λ l. cut.fed ++ last_line l) both.1 ∙ sym cut.are))

one_line : OneCommand → (bytes : List ℕ) (line line' : Line) → IsLine bytes line → IsLine bytes line' → line' ≡ line
one_line one bytes (said who asked) (said who' asked') is is' = let same = one bytes who' who asked' asked is' is in ap (λ n. said n asked') same.0 ∙ ap (λ (c : Command). said who c) same.1
one_line one bytes (said who asked) bad is is' = absurd (is'.none who asked is)
one_line one bytes bad (said who' asked') is is' = absurd (is.none who' asked' is')
one_line one bytes bad bad is is' = refl

same_read : OneCommand → (lines : List (List ℕ)) (read read' : List Line) → AllZip IsLine lines read → AllZip IsLine lines read' → read' ≡ read
same_read one [] [] [] each each' = refl
same_read one [] [] (r ∷ read') each each' = absurd each'
same_read one [] (r ∷ read) read' each each' = absurd each
same_read one (l ∷ lines) [] read' each each' = absurd each
same_read one (l ∷ lines) (r ∷ read) [] each each' = absurd each'
same_read one (l ∷ lines) (r ∷ read) (r' ∷ read') each each' =
    ap (λ (x : Line). x ∷ read') (one_line one l r r' each.0 each'.0) ∙ ap (λ (x : List Line). r ∷ x) (same_read one lines read read' each.1 each'.1)

pub texts_agree : OneCommand → OneCut → TextsAgree
texts_agree one_command one_cut a b input text other end end' same run run' free free' =
    let lines = same_lines one_cut input run.lines run'.lines run.cut run'.cut in
    let L : List (List ℕ) → Type 0 = λ l. AllZip IsLine l run'.read in
    let read = same_read one_command run.lines run.read run'.read run.each (subst L lines run'.each) in
    let R : List Line → Type 0 = λ l. Run b l run'.answers end' in
    let answers = runs_agree a b run.read run.answers run'.answers end end' same run.run (subst R read run'.run) free free' in
    run'.text_is ∙ (ap (λ (l : List Reply). flat_map text_of l) answers ∙ sym run.text_is)
