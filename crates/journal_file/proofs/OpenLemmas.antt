-- A number that is taken, and given back.
use Rattle.std.proofs.Common.{rules, ◌≡◌, ◌≢◌, ◌⊎◌, ℕ, Bool, true, false, List, [], Some, inl, inr, refl, sym, ◌∙◌, ap, unwrap_or}
use Rattle.std.specs.Prelude.{bytes_eq, Decides}
use Rattle.std.proofs.lemmas.Bool.{cases_eq}
use Rattle.std.proofs.lemmas.Slice.Eq.{bytes_eq-Decides}
use Rattle.vfs_model.specs.Laws.{ApartBack}
use Rattle.vfs_trait.specs.State.{StackState, IsFree, OpenStays, Stands, name_at}
use Rattle.vfs_trait.specs.Calls.{Takes, Closes}
use Rattle.journal_file.specs.Steps.{Opens}

pub opens_one : (a b d : StackState) (name : List ℕ) (fid : ℕ) → Takes a b name fid → OpenStays b d → Opens a d name fid
opens_one a b d name fid h k = record {
  unused = h.unused;
  least = h.least;
  named = k.names fid ∙ h.named;
  others = λ other differ. k.names other ∙ h.others other differ;
  delicate = λ other differ. k.delicate other ∙ h.delicate other differ;
}

cases_bytes : (xs ys : List ℕ) → (xs ≡ ys) ⊎ (xs ≢ ys)
cases_bytes xs ys = cases (bytes_eq xs ys) (bytes_eq-Decides xs ys) where
  cases : (b : Bool) → Decides b (xs ≡ ys) → (xs ≡ ys) ⊎ (xs ≢ ys)
  cases true h = inl (h.0 refl)
  cases false h = inr (λ e. let k : false ≡ true = h.1 e in search (rules, k))

-- a free name has no open file
not_open : ApartBack → (s : StackState) (name : List ℕ) (fid : ℕ) → IsFree s name → s.open_files fid ≢ Some name
not_open apart s name fid free is = (apart s.layers name name (free.apart fid name is)).1 refl

pub opens_none : ApartBack → (a b d e : StackState) (name : List ℕ) (fid : ℕ) → IsFree a name → Stands a → Takes a b name fid → OpenStays b d → Closes d e fid → Stands e → OpenStays a e
opens_none apart a b d e name fid free stands takes stays closes after = record { names = names; delicate = delicate } where
  names : (other : ℕ) → e.open_files other ≡ a.open_files other
  names other = elim (cases_eq other fid) [
    | inl same ↦ ap e.open_files same ∙ closes.closed ∙ sym takes.unused ∙ ap a.open_files (sym same)
    | inr differ ↦ closes.others other differ ∙ stays.names other ∙ takes.others other differ
  ]

  named : name_at d fid ≡ name
  named = ap (λ o. unwrap_or o []) (stays.names fid ∙ takes.named)

  closed : (other : ℕ) → e.open_files other ≢ Some name
  closed other is = not_open apart a name other free (sym (names other) ∙ is)

  delicate : (other : List ℕ) → e.delicate other ≡ a.delicate other
  delicate other = elim (cases_bytes other name) [
    | inr differ ↦
        let apart : other ≢ name_at d fid = λ same. differ (same ∙ named) in
        closes.delicate other apart ∙ stays.delicate other ∙ takes.delicate other differ
    | inl same ↦
        ap e.delicate same ∙ after.sturdy.each name closed ∙ sym (stands.sturdy.each name (λ f. not_open apart a name f free)) ∙ ap a.delicate (sym same)
  ]
