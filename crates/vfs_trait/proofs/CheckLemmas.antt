-- A checksum layer takes the one place that there is for it.
use Rattle.std.proofs.Common.{rules, ◌≡◌, ◌≢◌, inl, inr, ℕ, List, [], ◌∷◌, None, refl}
use Rattle.vfs_model.specs.Stack.{IsGotFrom, IsPermitted}
use Rattle.vfs_model.specs.declared.layer.Layer.{Layer}
use Rattle.vfs_model.specs.declared.layer.Layer.TheVariants.{Trace, Cksum, Append, Mux, Quota}
use Rattle.vfs_model.specs.declared.stack.Place.{Place}
use Rattle.vfs_model.specs.declared.stack.Place.TheVariants.{Trace as ForTrace, Cksum as ForCksum, Append as ForAppend, Mux as ForMux, Quota as ForQuota}
use Rattle.vfs_trait.specs.Calls.{checked}

abbrev NoneFor : List Place → Type 0
NoneFor [] = Unit {0}
NoneFor (place ∷ left) = (place ≢ ForCksum) × NoneFor left

not_got : (left : List Place) (page : ℕ) (layers : List Layer) → NoneFor left → IsGotFrom left (Cksum page ∷ layers) → ⊥
not_got [] page layers none h = h
not_got (place ∷ left) page layers none (inl h) = none.0 h.0
not_got (place ∷ left) page layers none (inr h) = not_got left page layers none.1 h

unchecked : (left : List Place) (layers : List Layer) → NoneFor left → IsGotFrom left layers → checked layers ≡ None
unchecked left [] none h = refl
unchecked [] (layer ∷ layers) none h = absurd h
unchecked (place ∷ left) (layer ∷ layers) none (inr h) = unchecked left (layer ∷ layers) none.1 h
unchecked (place ∷ left) (Trace ∷ layers) none (inl h) = unchecked left layers none.1 h.1
unchecked (place ∷ left) (Cksum page ∷ layers) none (inl h) = absurd (none.0 h.0)
unchecked (place ∷ left) (Append ∷ layers) none (inl h) = unchecked left layers none.1 h.1
unchecked (place ∷ left) (Mux chunk ∷ layers) none (inl h) = unchecked left layers none.1 h.1
unchecked (place ∷ left) (Quota groups ∷ layers) none (inl h) = unchecked left layers none.1 h.1

trace_is_none : ForTrace ≢ ForCksum
trace_is_none e = search rules

quota_is_none : ForQuota ≢ ForCksum
quota_is_none e = search rules

append_is_none : ForAppend ≢ ForCksum
append_is_none e = search rules

mux_is_none : ForMux ≢ ForCksum
mux_is_none e = search rules

-- the places below the one for a checksum layer
abbrev lower : List Place
lower = ForTrace ∷ ForQuota ∷ ForAppend ∷ ForTrace ∷ ForQuota ∷ ForMux ∷ ForTrace ∷ ForQuota ∷ []

none_lower : NoneFor lower
none_lower = (trace_is_none, (quota_is_none, (append_is_none, (trace_is_none, (quota_is_none, (mux_is_none, (trace_is_none, (quota_is_none, tt))))))))

pub checked_once : (page : ℕ) (layers : List Layer) → IsPermitted (Cksum page ∷ layers) → checked layers ≡ None
checked_once page layers (inl h) = absurd (trace_is_none h.0)
checked_once page layers (inr (inl h)) = absurd (quota_is_none h.0)
checked_once page layers (inr (inr (inl h))) = unchecked lower layers none_lower h.1
checked_once page layers (inr (inr (inr h))) = absurd (not_got lower page layers none_lower h)
