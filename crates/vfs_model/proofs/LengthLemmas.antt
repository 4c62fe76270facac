-- Lengths of one file and of the others.
use Rattle.std.proofs.Common.{◌≡◌, ◌≢◌, ◌⊎◌, inl, inr, ℕ, Bool, true, false, not, nat_eq, List, [], ◌∷◌, ◌++◌, length, refl, sym, ap, ◌∙◌, if◌then◌else◌, arith}
use Rattle.std.proofs.Common.{rules}
use Rattle.std.specs.Char.{is_ascii_digit}
use Rattle.std.specs.List.{list_all, starts_with}
use Rattle.std.proofs.lemmas.Bool.{eqb-true}
use Rattle.vfs_model.specs.Store.{IsNumbered, Separate, Apart}
use Rattle.vfs_model.specs.Pass.{OpenFile, OpenFiles, Lengths, same_name, rest_behind, is_chunk_of, only, each_only, of_file, others_of}
use Rattle.vfs_model.proofs.ChunkLemmas.{left_true, right_true, numbered}
use Rattle.vfs_model.proofs.ChunkLemmas.{two}
use Rattle.vfs_model.proofs.SoundLemmas.{back}
use Rattle.vfs_model.specs.declared.layer.Layer.{Layer}
use Rattle.vfs_model.specs.declared.layer.Layer.TheVariants.{Trace, Cksum, Append, Mux, Quota}

clash : true ≡ false → ⊥
clash h = search rules

-- Names

-- a text that begins with another is that, and what stands behind it
front_is : (other name : List ℕ) → starts_with nat_eq other name ≡ true → other ≡ name ++ rest_behind (length name) other
front_is other [] h = refl
front_is [] (b ∷ name) h = absurd (clash (sym h))
front_is (c ∷ other) (b ∷ name) h =
    let first : c ≡ b = sym (eqb-true b c (left_true (nat_eq b c) (starts_with nat_eq other name) h)) in
    let rest : other ≡ name ++ rest_behind (length name) other = front_is other name (right_true (nat_eq b c) (starts_with nat_eq other name) h) in
    ap (λ x. x ∷ other) first ∙ ap (λ xs. b ∷ xs) rest

-- of one length, they are the same
same_front : (a b : List ℕ) → length a ≡ length b → starts_with nat_eq a b ≡ true → a ≡ b
same_front [] [] same h = refl
same_front [] (b ∷ bs) same h = absurd (omega (arith, same))
same_front (a ∷ rest) [] same h = absurd (omega (arith, same))
same_front (a ∷ rest) (b ∷ bs) same h =
    let first : a ≡ b = sym (eqb-true b a (left_true (nat_eq b a) (starts_with nat_eq rest bs) h)) in
    let more : rest ≡ bs = same_front rest bs (omega (arith, same)) (right_true (nat_eq b a) (starts_with nat_eq rest bs) h) in
    ap (λ x. x ∷ rest) first ∙ ap (λ xs. b ∷ xs) more

pub same_name_is : (a b : List ℕ) → same_name a b ≡ true → a ≡ b
same_name_is a b h = same_front a b (eqb-true (length a) (length b) (left_true (nat_eq (length a) (length b)) (starts_with nat_eq a b) h))
    (right_true (nat_eq (length a) (length b)) (starts_with nat_eq a b) h)

pub differ : (layers : List Layer) (name other : List ℕ) → Apart layers name other → name ≢ other
differ [] name other h = h
differ (Trace ∷ below) name other h = differ below name other h
differ (Cksum page ∷ below) name other h = differ below name other h
differ (Append ∷ below) name other h = differ below name other h
differ (Mux chunk ∷ below) name other h = two name other h
differ (Quota groups ∷ below) name other h = differ below name other h

pub apart_back : (layers : List Layer) (name other : List ℕ) → Apart layers name other → Apart layers other name
apart_back [] name other h = λ same. h (sym same)
apart_back (Trace ∷ below) name other h = apart_back below name other h
apart_back (Cksum page ∷ below) name other h = apart_back below name other h
apart_back (Append ∷ below) name other h = apart_back below name other h
apart_back (Mux chunk ∷ below) name other h = back name other h
apart_back (Quota groups ∷ below) name other h = apart_back below name other h

-- a test that fails where another holds
abbrev Excludes : (List ℕ → Bool) → (List ℕ → Bool) → Type 0
Excludes test other = (name : List ℕ) → test name ≡ true → other name ≡ false

not_both : (a b : Bool) → (b ≡ true → ⊥) → a ≡ true → b ≡ false
not_both a true h k = absurd (h refl)
not_both a false h k = refl

same_excludes : (name other : List ℕ) → name ≢ other → Excludes (λ file. same_name other file) (λ file. same_name name file)
same_excludes name other apart file h =
    not_both (same_name other file) (same_name name file) (λ k. apart (same_name_is name file k ∙ sym (same_name_is other file h))) h

chunk_excludes : (name other : List ℕ) → Separate name other → Excludes (λ file. is_chunk_of other file) (λ file. is_chunk_of name file)
chunk_excludes name other apart file h = not_both (is_chunk_of other file) (is_chunk_of name file) (λ k. neither (both k)) h where
  both : is_chunk_of name file ≡ true → IsNumbered name other ⊎ IsNumbered other name
  both k =
      let front = front_is file name (left_true (starts_with nat_eq file name) (list_all is_ascii_digit (rest_behind (length name) file)) k) in
      let front' = front_is file other (left_true (starts_with nat_eq file other) (list_all is_ascii_digit (rest_behind (length other) file)) h) in
      numbered name other (rest_behind (length name) file) (rest_behind (length other) file)
      (right_true (starts_with nat_eq file name) (list_all is_ascii_digit (rest_behind (length name) file)) k)
      (right_true (starts_with nat_eq file other) (list_all is_ascii_digit (rest_behind (length other) file)) h)
      (sym front ∙ front')

  neither : IsNumbered name other ⊎ IsNumbered other name → ⊥
  neither (inl n) = apart.below n
  neither (inr n) = apart.above n

-- Lists

without_step : (test out : List ℕ → Bool) (file : OpenFile) (more : OpenFiles) (s w : Bool) → test file.name ≡ s → out file.name ≡ w → (s ≡ true → w ≡ false) →
    only test (only (λ name. not (out name)) more) ≡ only test more → only test (only (λ name. not (out name)) (file ∷ more)) ≡ only test (file ∷ more)
without_step test out file more s false is out_is excluded rest =
    ap (λ w. only test (if not w then file ∷ only (λ name. not (out name)) more else only (λ name. not (out name)) more)) out_is
    ∙ ap (λ files. if test file.name then file ∷ files else files) rest
without_step test out file more true true is out_is excluded rest = absurd (clash (excluded refl))
without_step test out file more false true is out_is excluded rest =
    ap (λ w. only test (if not w then file ∷ only (λ name. not (out name)) more else only (λ name. not (out name)) more)) out_is
    ∙ rest
    ∙ ap (λ s. if s then file ∷ only test more else only test more) (sym is)

-- what is taken out by a test is none of what passes one that it excludes
without : (test out : List ℕ → Bool) (files : OpenFiles) → Excludes test out → only test (only (λ name. not (out name)) files) ≡ only test files
without test out [] excludes = refl
without test out (file ∷ more) excludes =
    without_step test out file more (test file.name) (out file.name) refl refl (excludes file.name) (without test out more excludes)

each_without : (test out : List ℕ → Bool) (lengths : Lengths) → Excludes test out → each_only test (each_only (λ name. not (out name)) lengths) ≡ each_only test lengths
each_without test out [] excludes = refl
each_without test out (files ∷ more) excludes =
    ap (λ first. first ∷ each_only test (each_only (λ name. not (out name)) more)) (without test out files excludes)
    ∙ ap (λ rest. only test files ∷ rest) (each_without test out more excludes)

abbrev first_of : Lengths → OpenFiles
first_of [] = []
first_of (files ∷ more) = files

abbrev rest_of : Lengths → Lengths
rest_of [] = []
rest_of (files ∷ more) = more

none_is_some : (files : OpenFiles) (more : Lengths) → [] ≡ files ∷ more → ⊥
none_is_some files more h = search rules

keeps_same : (name other : List ℕ) (old new : OpenFiles) → name ≢ other → only (λ file. not (same_name name file)) new ≡ only (λ file. not (same_name name file)) old →
    only (same_name other) new ≡ only (same_name other) old
keeps_same name other old new apart same =
    sym (without (same_name other) (same_name name) new (same_excludes name other apart))
    ∙ ap (only (same_name other)) same
    ∙ without (same_name other) (same_name name) old (same_excludes name other apart)

-- what leaves the lengths of all other files leaves those of a file that is apart
pub others_keep : (layers : List Layer) (name other : List ℕ) (old new : Lengths) → Apart layers name other → others_of layers name new ≡ others_of layers name old →
    of_file layers other new ≡ of_file layers other old
others_keep [] name other old new apart same = refl
others_keep (Trace ∷ below) name other old new apart same = others_keep below name other old new apart same
others_keep (Cksum page ∷ below) name other old new apart same = others_keep below name other old new apart same
others_keep (Mux chunk ∷ below) name other old new apart same =
    sym (each_without (is_chunk_of other) (is_chunk_of name) new (chunk_excludes name other apart))
    ∙ ap (each_only (is_chunk_of other)) same
    ∙ each_without (is_chunk_of other) (is_chunk_of name) old (chunk_excludes name other apart)
others_keep (Append ∷ below) name other [] [] apart same = refl
others_keep (Append ∷ below) name other [] (files ∷ new) apart same = absurd (none_is_some _ _ (sym same))
others_keep (Append ∷ below) name other (files ∷ old) [] apart same = absurd (none_is_some _ _ same)
others_keep (Append ∷ below) name other (files ∷ old) (files' ∷ new) apart same =
    ap (λ first. first ∷ of_file below other new) (keeps_same name other files files' (differ below name other apart) (ap first_of same))
    ∙ ap (λ rest. only (same_name other) files ∷ rest) (others_keep below name other old new apart (ap rest_of same))
others_keep (Quota groups ∷ below) name other [] [] apart same = refl
others_keep (Quota groups ∷ below) name other [] (files ∷ new) apart same = absurd (none_is_some _ _ (sym same))
others_keep (Quota groups ∷ below) name other (files ∷ old) [] apart same = absurd (none_is_some _ _ same)
others_keep (Quota groups ∷ below) name other (files ∷ old) (files' ∷ new) apart same =
    ap (λ first. first ∷ of_file below other new) (keeps_same name other files files' (differ below name other apart) (ap first_of same))
    ∙ ap (λ rest. only (same_name other) files ∷ rest) (others_keep below name other old new apart (ap rest_of same))
