-- Calls of a stack, one after the other.
use Rattle.std.proofs.Common.{arith, rules, ◌≡◌, ◌≢◌, ◌⊎◌, ℕ, Bool, true, false, List, [], IsTrue, IsSome, Some, unwrap_or, inl, inr, refl, sym, ◌∙◌, ap, subst}
use Rattle.std.specs.Prelude.{bytes_eq, Decides}
use Rattle.std.proofs.lemmas.Bool.{cases_eq}
use Rattle.std.proofs.lemmas.Slice.Eq.{bytes_eq-Decides}
use Rattle.vfs_model.specs.File.{FileState}
use Rattle.vfs_model.specs.Effect.{NoLooser}
use Rattle.vfs_model.specs.Laws.{LooserTwice, ApartBack}
use Rattle.vfs_model.specs.Store.{OthersStay}
use Rattle.vfs_trait.specs.State.{StackState, IsFree, Steady, OpenStays, BrokenStays, Stands, name_at}
use Rattle.vfs_trait.specs.Calls.{Leaves, FilesLeft, Takes, Closes}

pub steady_twice : (a b c : StackState) → Steady a b → Steady b c → Steady a c
steady_twice a b c h k = record { tells = k.tells ∙ h.tells; layers = k.layers ∙ h.layers; faults = omega (arith, h.faults, k.faults) }

pub told_next : (a b : StackState) → Steady a b → IsTrue a.tells → IsTrue b.tells
told_next a b h told = h.tells ∙ told

pub name_stays : (a b : StackState) (fid : ℕ) → OpenStays a b → name_at b fid ≡ name_at a fid
name_stays a b fid h = ap (λ o. unwrap_or o []) (h.names fid)

pub opens_twice : (a b c : StackState) → OpenStays a b → OpenStays b c → OpenStays a c
opens_twice a b c h k = record { names = λ fid. k.names fid ∙ h.names fid; delicate = λ name. k.delicate name ∙ h.delicate name }

-- what a call and another leave of one file, and of the others
pub leaves_then : LooserTwice → (a b c : StackState) (name : List ℕ) (P Q R : FileState → FileState → Type 0) →
    (P (a.files name) (b.files name) → Q (b.files name) (c.files name) → R (a.files name) (c.files name)) → Steady a b → Leaves a b name P → Leaves b c name Q → Leaves a c name R
leaves_then twice a b c name P Q R both s h k = record {
  file = λ told. both (h.file told) (k.file (told_next a b s told));
  others = λ told.
      let stays : OthersStay a.layers b.files c.files name = subst (λ ls. OthersStay ls b.files c.files name) s.layers (k.others (told_next a b s told)) in
      record { each = λ other apart. twice (a.files other) (b.files other) (c.files other) ((h.others told).each other apart) (stays.each other apart) };
}

pub leaves_files : (a b : StackState) (name : List ℕ) → FilesLeft a b → Leaves a b name NoLooser
leaves_files a b name h = record {
  file = λ told. (h told).each name;
  others = λ told. record { each = λ other apart. (h told).each other };
}

-- a number that is taken, and given back

pub taken_named : (a b : StackState) (name : List ℕ) (fid : ℕ) → Takes a b name fid → name_at b fid ≡ name
taken_named a b name fid h = ap (λ o. unwrap_or o []) h.named

pub takes_then : (a b d : StackState) (name : List ℕ) (fid : ℕ) → Takes a b name fid → OpenStays b d → BrokenStays b d → Takes a d name fid
takes_then a b d name fid h k broken = record {
  unused = h.unused;
  least = h.least;
  named = k.names fid ∙ h.named;
  others = λ other differ. k.names other ∙ h.others other differ;
  delicate = λ other differ. k.delicate other ∙ h.delicate other differ;
  intact = broken.each fid (subst IsSome (sym h.named) (search rules)) ∙ h.intact;
}

cases_bytes : (xs ys : List ℕ) → (xs ≡ ys) ⊎ (xs ≢ ys)
cases_bytes xs ys = cases (bytes_eq xs ys) (bytes_eq-Decides xs ys) where
  cases : (b : Bool) → Decides b (xs ≡ ys) → (xs ≡ ys) ⊎ (xs ≢ ys)
  cases true h = inl (h.0 refl)
  cases false h = inr (λ e. let k : false ≡ true = h.1 e in search (rules, k))

-- a free name has no open file
free_not_open : ApartBack → (s : StackState) (name : List ℕ) (fid : ℕ) → IsFree s name → s.open_files fid ≢ Some name
free_not_open apart s name fid free is = (apart s.layers name name (free.apart fid name is)).1 refl

pub given_back : ApartBack → (a d e : StackState) (name : List ℕ) (fid : ℕ) → IsFree a name → Stands a → Takes a d name fid → Closes d e fid → Stands e → OpenStays a e
given_back apart a d e name fid free stands takes closes after = record { names = names; delicate = delicate } where
  names : (other : ℕ) → e.open_files other ≡ a.open_files other
  names other = elim (cases_eq other fid) [
    | inl same ↦ ap e.open_files same ∙ closes.closed ∙ sym takes.unused ∙ ap a.open_files (sym same)
    | inr differ ↦ closes.others other differ ∙ takes.others other differ
  ]

  closed : (other : ℕ) → e.open_files other ≢ Some name
  closed other is = free_not_open apart a name other free (sym (names other) ∙ is)

  delicate : (other : List ℕ) → e.delicate other ≡ a.delicate other
  delicate other = elim (cases_bytes other name) [
    | inr differ ↦ closes.delicate other (λ same. differ (same ∙ taken_named a d name fid takes)) ∙ takes.delicate other differ
    | inl same ↦ ap e.delicate same ∙ after.sturdy.each name closed ∙ sym (stands.sturdy.each name (λ f. free_not_open apart a name f free)) ∙ ap a.delicate (sym same)
  ]
