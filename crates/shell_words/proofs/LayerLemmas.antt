-- A word names one layer at most.
use Rattle.std.proofs.Common.{◌≡◌, ◌≢◌, ◌⊎◌, inl, inr, ℕ, suc, ◌-◌, ◌≤◌, ◌<◌, ◌^◌, true, false, IsTrue, List, [], ◌∷◌, ◌++◌, length, get_or, codes, refl, sym, ap, subst, ◌∙◌, arith}
use Rattle.std.specs.List.{join_with_byte, AllZip, All}
use Rattle.std.proofs.lemmas.List.{append-nil}
use Rattle.vfs_model.specs.Pattern.{is_pattern_byte}
use Rattle.vfs_model.specs.declared.layer.Group.{Group}
use Rattle.vfs_model.specs.declared.layer.Layer.{Layer}
use Rattle.vfs_model.specs.declared.layer.Layer.TheVariants.{Trace, Cksum, Append, Mux, Quota}
use Rattle.shell_words.specs.Plan.{SpellsGroup, SpellsQuota, SpellsChunk, SpellsLayer, greatest_chunk, rounded}
use Rattle.shell_words.proofs.TextLemmas.{no_first, same_first, same_back, Lacks, BeginsWith, one_front, both_lack, number_lacks, one_number}

-- ---- a group

-- a pattern has neither a comma nor an equals sign
pattern_lacks : (mark : ℕ) (bytes : List ℕ) → ((b : ℕ) → IsTrue (is_pattern_byte b) → b ≢ mark) → All (λ b. IsTrue (is_pattern_byte b)) bytes → Lacks mark bytes
pattern_lacks mark [] other all = tt
pattern_lacks mark (b ∷ bytes) other all = (other b (all 0 0 (omega arith)), pattern_lacks mark bytes other (λ k d less. all (suc k) d (omega (arith, less))))

no_comma : (b : ℕ) → IsTrue (is_pattern_byte b) → b ≢ 44
no_comma b is e = let wrong : false ≡ true = subst (λ (n : ℕ). IsTrue (is_pattern_byte n)) e is in cc

no_equals : (b : ℕ) → IsTrue (is_pattern_byte b) → b ≢ 61
no_equals b is e = let wrong : false ≡ true = subst (λ (n : ℕ). IsTrue (is_pattern_byte n)) e is in cc

limit_lacks : (mark : ℕ) (part : List ℕ) (group : Group) (spells : SpellsGroup part group) → (mark < 48) ⊎ (57 < mark) → Lacks mark spells.number
limit_lacks mark part group spells out = subst (Lacks mark) (sym spells.limit.spelled) (number_lacks mark group.limit out (omega (arith, spells.limit.no_more)))

part_lacks : (part : List ℕ) (group : Group) → SpellsGroup part group → Lacks 44 part
part_lacks part group spells =
    subst (Lacks 44) (sym spells.spelled)
    (both_lack 44 group.glob (61 ∷ spells.number) (pattern_lacks 44 group.glob no_comma spells.glob.each) ((λ e. omega (arith, e)), limit_lacks 44 part group spells (inl (omega arith))))

one_group : (part another : List ℕ) (group other : Group) → SpellsGroup part group → SpellsGroup another other → part ≡ another → group ≡ other
one_group part another group other p q e =
    let cut = one_front 61 group.glob other.glob (61 ∷ p.number) (61 ∷ q.number) (pattern_lacks 61 group.glob no_equals p.glob.each) (pattern_lacks 61 other.glob no_equals q.glob.each)
    refl refl (sym p.spelled ∙ e ∙ q.spelled) in
    let number = (same_first 61 61 p.number q.number cut.1).1 in
    let limit : group.limit ≡ other.limit = one_number 0 (2 ^ 63 - 1) p.number q.number group.limit other.limit (omega arith) p.limit q.limit number in
    λ i. record { glob = cut.0 i; limit = limit i }

-- ---- groups

-- what stands behind the first part
after : List (List ℕ) → List ℕ
after [] = []
after (part ∷ parts) = 44 ∷ join_with_byte 44 (part ∷ parts)

join_is : (part : List ℕ) (parts : List (List ℕ)) → join_with_byte 44 (part ∷ parts) ≡ part ++ after parts
unfolding after
join_is part [] = sym (append-nil part)
join_is part (other ∷ parts) = refl

after_begins : (parts : List (List ℕ)) → BeginsWith 44 (after parts)
unfolding after
after_begins [] = tt
after_begins (part ∷ parts) = refl

one_first : (part another : List ℕ) (parts its : List (List ℕ)) (group other : Group) → SpellsGroup part group → SpellsGroup another other
    → join_with_byte 44 (part ∷ parts) ≡ join_with_byte 44 (another ∷ its) → (group ≡ other) × (after parts ≡ after its)
one_first part another parts its group other p q e =
    let cut = one_front 44 part another (after parts) (after its) (part_lacks part group p) (part_lacks another other q) (after_begins parts) (after_begins its)
    (sym (join_is part parts) ∙ e ∙ join_is another its) in
    (one_group part another group other p q cut.0, cut.1)

one_after : (parts its : List (List ℕ)) (groups others : List Group) → AllZip SpellsGroup parts groups → AllZip SpellsGroup its others → after parts ≡ after its → groups ≡ others
unfolding after
one_after [] [] [] [] p q e = refl
one_after [] (another ∷ its) [] (other ∷ others) p q e = absurd (no_first 44 (join_with_byte 44 (another ∷ its)) (sym e))
one_after (part ∷ parts) [] (group ∷ groups) [] p q e = absurd (no_first 44 (join_with_byte 44 (part ∷ parts)) e)
one_after (part ∷ parts) (another ∷ its) (group ∷ groups) (other ∷ others) p q e =
    let first = one_first part another parts its group other p.0 q.0 (same_first 44 44 (join_with_byte 44 (part ∷ parts)) (join_with_byte 44 (another ∷ its)) e).1 in
    let more = one_after parts its groups others p.1 q.1 first.1 in
    λ i. first.0 i ∷ more i
one_after [] its (group ∷ groups) others p q e = absurd p
one_after (part ∷ parts) its [] others p q e = absurd p
one_after [] [] [] (other ∷ others) p q e = absurd q
one_after [] (another ∷ its) [] [] p q e = absurd q
one_after (part ∷ parts) [] (group ∷ groups) (other ∷ others) p q e = absurd q
one_after (part ∷ parts) (another ∷ its) (group ∷ groups) [] p q e = absurd q

some_groups : (parts its : List (List ℕ)) (groups others : List Group) → AllZip SpellsGroup parts groups → AllZip SpellsGroup its others → 1 ≤ length groups → 1 ≤ length others
    → join_with_byte 44 parts ≡ join_with_byte 44 its → after parts ≡ after its
unfolding after
some_groups (part ∷ parts) (another ∷ its) groups others p q some more e = ap (λ (bytes : List ℕ). 44 ∷ bytes) e
some_groups [] its [] others p q some more e = absurd (omega (arith, some))
some_groups [] its (group ∷ groups) others p q some more e = absurd p
some_groups (part ∷ parts) [] groups [] p q some more e = absurd (omega (arith, more))
some_groups (part ∷ parts) [] groups (other ∷ others) p q some more e = absurd q

one_quota : (word another : List ℕ) (groups others : List Group) → SpellsQuota word groups → SpellsQuota another others → word ≡ another → groups ≡ others
one_quota word another groups others p q e =
    let joined = same_back (codes "quota:") (join_with_byte 44 p.parts) (join_with_byte 44 q.parts) (sym p.spelled ∙ e ∙ q.spelled) in
    one_after p.parts q.parts groups others p.each q.each (some_groups p.parts q.parts groups others p.each q.each p.some q.some joined)

-- ---- a chunk

plain_chunk : (word another : List ℕ) (chunk : ℕ) → word ≡ codes "mux" → SpellsChunk another chunk → word ≢ another
plain_chunk word another chunk plain sized e = no_first 58 sized.number (same_back (codes "mux") (58 ∷ sized.number) [] (sym sized.spelled ∙ sym e ∙ plain))

one_chunk : (word another : List ℕ) (chunk other : ℕ) → ((word ≡ codes "mux") × (chunk ≡ greatest_chunk)) ⊎ SpellsChunk word chunk
    → ((another ≡ codes "mux") × (other ≡ greatest_chunk)) ⊎ SpellsChunk another other → word ≡ another → chunk ≡ other
one_chunk word another chunk other (inl p) (inl q) e = p.1 ∙ sym q.1
one_chunk word another chunk other (inl p) (inr q) e = absurd (plain_chunk word another other p.0 q e)
one_chunk word another chunk other (inr p) (inl q) e = absurd (plain_chunk another word chunk q.0 p (sym e))
one_chunk word another chunk other (inr p) (inr q) e =
    let number = same_back (codes "mux:") p.number q.number (sym p.spelled ∙ e ∙ q.spelled) in
    let size : p.size ≡ q.size = one_number 1 greatest_chunk p.number q.number p.size q.size (omega arith) p.size_is q.size_is number in
    p.rounded_is ∙ ap rounded size ∙ sym q.rounded_is

-- ---- a layer

initial : Layer → ℕ
initial Trace = 116
initial (Cksum page) = 99
initial Append = 97
initial (Mux chunk) = 109
initial (Quota groups) = 113

first_of : List ℕ → ℕ
first_of word = get_or word 0 0

initial_is : (page : ℕ) (word : List ℕ) (layer : Layer) → SpellsLayer page word layer → first_of word ≡ initial layer
unfolding initial first_of
initial_is page word Trace is = ap (λ (w : List ℕ). get_or w 0 0) is
initial_is page word (Cksum size) is = ap (λ (w : List ℕ). get_or w 0 0) is.0
initial_is page word Append is = ap (λ (w : List ℕ). get_or w 0 0) is
initial_is page word (Mux chunk) (inl is) = ap (λ (w : List ℕ). get_or w 0 0) is.0
initial_is page word (Mux chunk) (inr is) = ap (λ (w : List ℕ). get_or w 0 0) is.spelled
initial_is page word (Quota groups) is = ap (λ (w : List ℕ). get_or w 0 0) is.spelled

one_layer : (page : ℕ) (word another : List ℕ) (layer other : Layer) → SpellsLayer page word layer → SpellsLayer page another other → word ≡ another → initial layer ≡ initial other
    → layer ≡ other
unfolding initial
one_layer page word another Trace Trace p q e same = refl
one_layer page word another (Cksum size) (Cksum its) p q e same = ap Cksum (p.1 ∙ sym q.1)
one_layer page word another Append Append p q e same = refl
one_layer page word another (Mux chunk) (Mux other) p q e same = ap Mux (one_chunk word another chunk other p q e)
one_layer page word another (Quota groups) (Quota others) p q e same = ap Quota (one_quota word another groups others p q e)
one_layer page word another layer other p q e same = absurd (omega (arith, same))

pub one_stack : (page : ℕ) (words : List (List ℕ)) (layers others : List Layer) → AllZip (SpellsLayer page) words layers → AllZip (SpellsLayer page) words others → layers ≡ others
one_stack page [] [] [] p q = refl
one_stack page (word ∷ words) (layer ∷ layers) (other ∷ others) p q =
    let first = one_layer page word word layer other p.0 q.0 refl (sym (initial_is page word layer p.0) ∙ initial_is page word other q.0) in
    let more = one_stack page words layers others p.1 q.1 in
    λ i. first i ∷ more i
one_stack page [] (layer ∷ layers) others p q = absurd p
one_stack page (word ∷ words) [] others p q = absurd p
one_stack page [] [] (other ∷ others) p q = absurd q
one_stack page (word ∷ words) (layer ∷ layers) [] p q = absurd q
