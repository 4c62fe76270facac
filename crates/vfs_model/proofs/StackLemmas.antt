-- Layers got from places, the first place of each kind first.
use Rattle.std.proofs.Common.{◌≡◌, List, [], ◌∷◌, inl, inr, sym, subst}
use Rattle.vfs_model.specs.Stack.{IsGotFrom, place_for}
use Rattle.vfs_model.specs.declared.layer.Layer.{Layer}
use Rattle.vfs_model.specs.declared.stack.Place.{Place}

-- without their first layer
pub rest_got : (left : List Place) (layer : Layer) (more : List Layer) → IsGotFrom left (layer ∷ more) → IsGotFrom left more
rest_got [] layer more h = absurd h
rest_got (place ∷ left) layer [] h = tt
rest_got (place ∷ left) layer (next ∷ more) (inl taken) = inr taken.1
rest_got (place ∷ left) layer (next ∷ more) (inr out) = inr (rest_got left layer (next ∷ more) out)

-- where the first place is one for the first layer, that may as well take it
pub taken : (place : Place) (left : List Place) (layer : Layer) (more : List Layer) → IsGotFrom (place ∷ left) (layer ∷ more) → IsGotFrom left more
taken place left layer more (inl h) = h.1
taken place left layer more (inr out) = rest_got left layer more out

-- so the layers are got from these places just where the others are from the others
pub as_taken : {R : Type 0} (places left : List Place) (place : Place) (layers more : List Layer) (layer : Layer) → places ≡ place ∷ left → layers ≡ layer ∷ more → place ≡ place_for layer →
    (R → IsGotFrom left more) × (IsGotFrom left more → R) → (R → IsGotFrom places layers) × (IsGotFrom places layers → R)
as_taken {R = R} places left place layers more layer places_are layers_are fits rest =
    let P : List Place → List Layer → Type 0 = λ ps ls. (R → IsGotFrom ps ls) × (IsGotFrom ps ls → R) in
    let here : P (place ∷ left) (layer ∷ more) = (λ r. inl (fits, rest.0 r), λ got. rest.1 (taken place left layer more got)) in
    subst (λ ps. P ps layers) (sym places_are) (subst (λ ls. P (place ∷ left) ls) (sym layers_are) here)
