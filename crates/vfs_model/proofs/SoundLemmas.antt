-- Views and soundness.
use Rattle.std.proofs.Common.{◌≡◌, ℕ, zero, suc, ◌+◌, ◌<◌, List, [], ◌∷◌, ◌++◌, refl, sym, ap, ◌∙◌, subst, if◌then◌else◌, arith}
use Rattle.vfs_model.specs.Store.{Store, Files, present, Separate, Apart}
use Rattle.vfs_model.specs.Name.{kind_of}
use Rattle.vfs_model.specs.View.{view, through, plain, of_main, summed, appended, chunk_name, chunk_then, bytes_from, most_chunks, ViewedFrom}
use Rattle.vfs_model.specs.Sound.{Sound, OwnStep, Each, MakesNoneWild}
use Rattle.vfs_model.proofs.ChunkLemmas.{two, viewed_kind}
use Rattle.vfs_model.specs.declared.name.Kind.{Kind}
use Rattle.vfs_model.specs.declared.layer.Layer.{Layer}
use Rattle.vfs_model.specs.declared.layer.Layer.TheVariants.{Trace, Cksum, Append, Mux, Quota}

-- the bytes of chunks depend on those chunks alone
pub bytes_local : (left chunk : ℕ) (f g : Files) (name : List ℕ) (number : ℕ) → ((i : ℕ) → i < number + left → f (chunk_name name i) ≡ g (chunk_name name i)) →
    bytes_from left chunk f name number ≡ bytes_from left chunk g name number
bytes_local zero chunk f g name number same = refl
bytes_local (suc left) chunk f g name number same =
    let here : f (chunk_name name number) ≡ g (chunk_name name number) = same number (omega arith) in
    let rest : bytes_from left chunk f name (suc number) ≡ bytes_from left chunk g name (suc number) = bytes_local left chunk f g name (suc number) (λ i less. same i (omega (arith, less))) in
    ap (λ h. if h.there then chunk_then chunk h.bytes (bytes_from left chunk f name (suc number)) else []) here
    ∙ ap (λ r. if (g (chunk_name name number)).there then chunk_then chunk (g (chunk_name name number)).bytes r else []) rest

-- there may be a first chunk
first_one : 0 < most_chunks
unfolding most_chunks
first_one = omega arith

-- a view of a name depends on the files of the names alone that it makes use of
pub view_local : (layer : Layer) (f g : Files) (name : List ℕ) → ((other : List ℕ) → ViewedFrom layer name other → f other ≡ g other) → view layer f name ≡ view layer g name
view_local Trace f g name same = same name refl
view_local (Cksum page) f g name same = ap (λ h. of_main (kind_of name) (summed page h) h) (same name refl)
view_local Append f g name same = ap (λ h. of_main (kind_of name) (appended h) h) (same name refl)
view_local (Mux chunk) f g name same =
    let first : f name ≡ g name = same name (record { number = 0; few = first_one; named = refl }) in
    let rest : bytes_from most_chunks chunk f name 0 ≡ bytes_from most_chunks chunk g name 0 =
    bytes_local most_chunks chunk f g name 0 (λ i less. same (chunk_name name i) (record { number = i; few = omega (arith, less); named = refl })) in
    ap (λ h. plain h.there (bytes_from most_chunks chunk f name 0)) first ∙ ap (λ bytes. plain (g name).there bytes) rest
view_local (Quota groups) f g name same = same name refl

-- where no layer makes files of a name's kind wild, none makes those wild from which it is viewed
none_of : (layer : Layer) (layers : List Layer) (name other : List ℕ) → ViewedFrom layer name other → Each (MakesNoneWild (kind_of name)) layers → Each (MakesNoneWild (kind_of other)) layers
none_of layer layers name other viewed none =
    let P : Kind → Type 0 = λ kind. Each (MakesNoneWild kind) layers in subst P (sym (viewed_kind layer name other viewed)) none

pub sound_over : (layer : Layer) (layers : List Layer) (base below above : Store) → OwnStep layer below above → Sound layers base below → Sound (layer ∷ layers) base above
sound_over layer layers base below above own sound = record {
  orderly = own.orderly;
  shows = λ name tame. own.shows name tame ∙ view_local layer (present below) (through layers (present base)) name (λ other viewed. sound.shows other (own.wild name other tame viewed));
  images = λ i device name tame. own.images (through layers i) name tame (λ other viewed. sound.images i device other (own.wild name other tame viewed));
  tame = λ name none. own.tame name none.0 (λ other viewed. sound.tame other (none_of layer layers name other viewed none.1));
  unmarked = λ name none. own.unmarked name none.0 (sound.unmarked name none.1);
}

pub apart_of : (layers : List Layer) (name other : List ℕ) → Separate name other → Apart layers name other
apart_of [] name other h = two name other h
apart_of (Trace ∷ below) name other h = apart_of below name other h
apart_of (Cksum page ∷ below) name other h = apart_of below name other h
apart_of (Append ∷ below) name other h = apart_of below name other h
apart_of (Mux chunk ∷ below) name other h = h
apart_of (Quota groups ∷ below) name other h = apart_of below name other h

pub back : (name other : List ℕ) → Separate name other → Separate other name
back name other h = record { below = h.above; above = h.below }

-- two stacks, one on the other, show what the whole shows
pub composed : (above below : List Layer) (files : Files) → through (above ++ below) files ≡ through above (through below files)
composed [] below files = refl
composed (layer ∷ above) below files = ap (view layer) (composed above below files)
