-- The test of a super-journal's name.
use Rattle.std.proofs.Common.{rules, ◌≡◌, ℕ, ◌≤◌, nat_le, ◌&&◌, Bool, true, false, if◌then◌else◌, IsTrue, List, Some, None, length, take, drop, ◌-◌, ◌≢◌, refl, sym, ap, ◌∙◌, arith}
use Rattle.std.specs.Prelude.{All, bytes_eq}
use Rattle.std.proofs.lemmas.Slice.Eq.{bytes_eq-Decides}
use Rattle.std.specs.Bool.{Decides}
use Rattle.std.specs.List.{list_all}
use Rattle.std.proofs.lemmas.Bool.Decides.{nat_tests, Decides-and, Decides-like, Decides-by_and}
use Rattle.vfs_model.specs.Name.{IsName, is_name_byte, kind_of}
use Rattle.vfs_model.specs.declared.name.Kind.{Kind}
use Rattle.vfs_model.specs.declared.name.Kind.TheVariants.{Main, Journal, Super}
use Rattle.journal_format.specs.Journal.{is_super, is_super_kind, trailer, trailer_name}
use Rattle.journal_format.specs.Steps.{name_if_super}

super_kind : (kind : Kind) → Decides (is_super_kind kind) (kind ≡ Super)
super_kind Main = (λ e. absurd (search (rules, e)), λ e. absurd (search (rules, e)))
super_kind Journal = (λ e. absurd (search (rules, e)), λ e. absurd (search (rules, e)))
super_kind Super = (λ e. refl, λ e. refl)

at_most : (a b : ℕ) → Decides (nat_le a b) (a ≤ b)
at_most a b = (λ e. grind (arith, nat_tests, e), λ e. grind (arith, nat_tests, e))

each_byte : (name : List ℕ) → Decides (list_all is_name_byte name) (All (λ b. IsTrue (is_name_byte b)) name)
each_byte name = Decides-by_and is_name_byte (λ b. IsTrue (is_name_byte b)) (list_all is_name_byte) (λ b. (λ e. e, λ e. e)) refl (λ _ _. refl) name

pub is_super_decides : (name : List ℕ) → Decides (is_super name) (IsName name × (kind_of name ≡ Super))
is_super_decides name =
    let all = Decides-and _ _ (at_most 1 (length name)) (Decides-and _ _ (at_most (length name) 160) (Decides-and _ _ (each_byte name) (super_kind (kind_of name)))) in
    Decides-like (is_super name) (λ h. (record { some = h.0; short = h.1.0; each = h.1.1.0 }, h.1.1.1)) (λ h. (h.0.some, (h.0.short, (h.0.each, h.1)))) all

none : (x : List ℕ) (b : Bool) → (b ≡ true → ⊥) → None ≡ (if b then Some x else None)
none x true other = absurd (other refl)
none x false other = refl

pub is_super_name : (bytes name : List ℕ) → IsName bytes → name ≡ bytes → kind_of name ≡ Super → Some name ≡ name_if_super bytes
is_super_name bytes name named same kind =
    let is : is_super bytes ≡ true = (is_super_decides bytes).1 (named, ap kind_of (sym same) ∙ kind) in
    ap Some same ∙ rw is refl

pub no_super_name : (bytes : List ℕ) → (IsName bytes → kind_of bytes ≢ Super) → None ≡ name_if_super bytes
no_super_name bytes other = none bytes (is_super bytes) (λ e. let both = (is_super_decides bytes).0 e in other both.0 both.1)

-- ---- the trailer that is read

-- the bytes of a trailer that are its name
abbrev middle : List ℕ → List ℕ
middle bytes = take (length bytes - 16 - 4) (drop 4 bytes)

trailer_test : (page : ℕ) (bytes : List ℕ) → trailer_name page bytes ≡ (if bytes_eq bytes (trailer page (middle bytes)) && is_super (middle bytes) then Some (middle bytes) else None)
trailer_test page bytes =
    let count : length bytes - 20 ≡ length bytes - 16 - 4 = omega arith in
    ap (λ n. if bytes_eq bytes (trailer page (take n (drop 4 bytes))) && is_super (take n (drop 4 bytes)) then Some (take n (drop 4 bytes)) else None) count

-- what a test that was passed or not says
when_some : (b : Bool) (x name : List ℕ) → Some name ≡ (if b then Some x else None) → (b ≡ true) × (x ≡ name)
when_some true x name e = (refl, cc)
when_some false x name e = absurd (cc)

when_none : (a b : Bool) (x : List ℕ) → None ≡ (if b then Some x else None) → None ≡ (if a && b then Some x else None)
when_none true b x e = e
when_none false b x e = refl

both_none : (a b : Bool) (x : List ℕ) → (a ≡ true → ⊥) → None ≡ (if a && b then Some x else None)
both_none true b x other = absurd (other refl)
both_none false b x other = refl

pub no_trailer_name : (page : ℕ) (bytes : List ℕ) → None ≡ name_if_super (middle bytes) → None ≡ trailer_name page bytes
no_trailer_name page bytes e = when_none (bytes_eq bytes (trailer page (middle bytes))) (is_super (middle bytes)) (middle bytes) e ∙ sym (trailer_test page bytes)

pub trailer_is : (page : ℕ) (bytes name written : List ℕ) → Some name ≡ name_if_super (middle bytes) → written ≡ trailer page name → written ≡ bytes → Some name ≡ trailer_name page bytes
trailer_is page bytes name written found wrote same =
    let is = when_some (is_super (middle bytes)) (middle bytes) name found in
    let equal : bytes ≡ trailer page (middle bytes) = sym same ∙ wrote ∙ ap (trailer page) (sym is.1) in
    let test : bytes_eq bytes (trailer page (middle bytes)) ≡ true = (bytes_eq-Decides bytes (trailer page (middle bytes))).1 equal in
    ap Some (sym is.1) ∙ rw (test, is.0) refl ∙ sym (trailer_test page bytes)

pub trailer_is_not : (page : ℕ) (bytes name written : List ℕ) → Some name ≡ name_if_super (middle bytes) → written ≡ trailer page name → (written ≡ bytes → ⊥) → None ≡ trailer_name page bytes
trailer_is_not page bytes name written found wrote other =
    let is = when_some (is_super (middle bytes)) (middle bytes) name found in
    let test = bytes_eq-Decides bytes (trailer page (middle bytes)) in
    both_none (bytes_eq bytes (trailer page (middle bytes))) (is_super (middle bytes)) (middle bytes) (λ e. other (wrote ∙ ap (trailer page) (sym is.1) ∙ sym (test.0 e))) ∙ sym (trailer_test page bytes)
