-- Bytes that were written to pages are a chain there.
use Rattle.std.proofs.Common.{◌≡◌, inl, inr, ℕ, ◌+◌, ◌-◌, ◌*◌, ◌^◌, ◌≤◌, ◌<◌, replicate, List, [], ◌∷◌, ◌++◌, length, take, drop, refl, sym, ap, ◌∙◌, subst, arith, append_assoc, append-nil, length-drop, length-take, add-one}
use Rattle.std.proofs.Math.Seq.{take-append-add, take-append_seam}
use Rattle.std.proofs.lemmas.Bool.{cases_lt}
use Rattle.std.proofs.lemmas.List.{nil_from_length, take-replicate, drop_at, drop_all, take_all, take-append-drop, replicate-append-replicate}
use Rattle.std.specs.List.{flat_map}
use Rattle.byteorder.specs.Endian.{big_bytes}
use Rattle.byteorder.specs.Numbers.{big_number-reads_back, length-bytes_high_first}
use Rattle.byte_base.specs.Numbers.{number_at}
use Rattle.page_list.specs.Pages.{Pages, HasPage, SamePage, Among, AllDifferent, AreSized}
use Rattle.page_list.specs.Chain.{AreLinked, next_page, piece, pages_needed}
use Rattle.page_list.specs.Edits.{with_page}
use Rattle.page_list.proofs.ChainLemmas.{times-same, among-here, among-cons}
use Rattle.payload_chain.specs.Chains.{ChainWritten, chain_page, first_of, with_chain}
use Rattle.payload_chain.proofs.CountLemmas.{needed_enough}
use Rattle.payload_chain.proofs.PutLemmas.{page-written, page-stays, chain-stays, chain-size, chain-used, chain-good}

-- pages that stay are linked as they were, and hold the same bytes
linked-kept : (old new : Pages) (next : ℕ) (numbers : List ℕ) → ((n : ℕ) → Among numbers n → SamePage old new n) → AreLinked old next numbers 0 → AreLinked new next numbers 0
linked-kept old new next [] same linked = linked
linked-kept old new next (n ∷ more) same linked =
    let here = (same n (among-here n more)).bytes_stay in
    let P : ℕ → Type 0 = λ k. AreLinked new k more 0 in
    (linked.0, subst P (ap (λ b. number_at 4 b 0) (sym here)) (linked-kept old new (next_page old n) more (λ m among. same m (among-cons m n more among)) linked.1))

pieces-kept : (old new : Pages) (numbers : List ℕ) → new.usable ≡ old.usable → ((n : ℕ) → Among numbers n → SamePage old new n)
    → flat_map (piece new) numbers ≡ flat_map (piece old) numbers
pieces-kept old new [] used same = refl
pieces-kept old new (n ∷ more) used same =
    let here = (same n (among-here n more)).bytes_stay in
    let rest = pieces-kept old new more used (λ m among. same m (among-cons m n more among)) in
    λ i. take (used i - 4) (drop 4 (here i)) ++ rest i

-- the number and the bytes of a page that was put
next-put : (len next : ℕ) (bytes : List ℕ) → next < 256 ^ 4 → number_at 4 (chain_page len next bytes) 0 ≡ next
unfolding number_at
next-put len next bytes fits = big_number-reads_back 4 next (bytes ++ replicate (len - (4 + length bytes)) 0) fits

piece-put : (room len next : ℕ) (bytes : List ℕ) → length bytes ≤ room → 4 + room ≤ len
    → take room (drop 4 (chain_page len next bytes)) ≡ bytes ++ replicate (room - length bytes) 0
piece-put room len next bytes few fits =
    let m : ℕ = len - (4 + length bytes) in
    let parts : room ≡ length bytes + (room - length bytes) = omega arith in
    ap (λ l. take room l) (drop_at (big_bytes 4 next) (bytes ++ replicate m 0) 4 (length-bytes_high_first 4 next))
    ∙ ap (λ n. take n (bytes ++ replicate m 0)) parts ∙ take-append-add bytes (replicate m 0) (room - length bytes)
    ∙ ap (λ l. bytes ++ l) (take-replicate (room - length bytes) m 0 (omega arith))

-- so many bytes in front of the others, with zeros behind them
front-joined : (room count : ℕ) (bytes : List ℕ)
    → (take room bytes ++ replicate (room - length (take room bytes)) 0) ++ (drop room bytes ++ replicate (room * count - length (drop room bytes)) 0)
    ≡ bytes ++ replicate (room * (count + 1) - length bytes) 0
front-joined room count bytes = elim (cases_lt (length bytes) room) as
    (λ _. (take room bytes ++ replicate (room - length (take room bytes)) 0) ++ (drop room bytes ++ replicate (room * count - length (drop room bytes)) 0)
    ≡ bytes ++ replicate (room * (count + 1) - length bytes) 0) [
      | inl short ↦
          let a : take room bytes ≡ bytes = take_all room bytes (omega arith) in
          let b : drop room bytes ≡ [] = drop_all room bytes (omega arith) in
          let sum : room - length bytes + (room * count - 0) ≡ room * (count + 1) - length bytes = omega arith in
          (λ i. (a i ++ replicate (room - length (a i)) 0) ++ (b i ++ replicate (room * count - length (b i)) 0))
          ∙ append_assoc bytes (replicate (room - length bytes) 0) (replicate (room * count - 0) 0)
          ∙ ap (λ l. bytes ++ l) (replicate-append-replicate (room - length bytes) (room * count - 0) 0 ∙ ap (λ n. replicate n 0) sum)
      | inr long ↦
          let none : room - length (take room bytes) ≡ 0 = omega (arith, length-take room bytes) in
          let rest : room * count - length (drop room bytes) ≡ room * (count + 1) - length bytes = omega (arith, length-drop room bytes) in
          (λ i. (take room bytes ++ replicate (none i) 0) ++ (drop room bytes ++ replicate (rest i) 0))
          ∙ ap (λ l. l ++ (drop room bytes ++ replicate (room * (count + 1) - length bytes) 0)) (append-nil (take room bytes))
          ∙ sym (append_assoc (take room bytes) (drop room bytes) (replicate (room * (count + 1) - length bytes) 0))
          ∙ ap (λ l. l ++ replicate (room * (count + 1) - length bytes) 0) (take-append-drop room bytes)
    ]

-- the pages of a chain that was written are linked, and hold its bytes
record IsLaid (pages : Pages) (room : ℕ) (numbers bytes : List ℕ) : Type 0 where
  pub linked : AreLinked pages (first_of numbers) numbers 0
  pub holds : flat_map (piece pages) numbers ≡ bytes ++ replicate (room * length numbers - length bytes) 0

first-fits : (page_size : ℕ) (pages : Pages) (numbers : List ℕ) → AreSized page_size pages → ((n : ℕ) → Among numbers n → HasPage pages n) → first_of numbers < 256 ^ 4
first-fits page_size pages [] sized there = omega arith
first-fits page_size pages (n ∷ more) sized there = omega (arith, (there n (among-here n more)).most, sized.few)

laid : (page_size : ℕ) (numbers bytes : List ℕ) (pages : Pages) → AreSized page_size pages → AllDifferent numbers → ((n : ℕ) → Among numbers n → HasPage pages n)
    → length bytes ≤ (pages.usable - 4) * length numbers → IsLaid (with_chain page_size numbers bytes pages) (pages.usable - 4) numbers bytes
laid page_size [] bytes pages sized different there fits =
    let none : bytes ≡ [] = nil_from_length bytes (omega arith) in
    let m : (pages.usable - 4) * 0 - length bytes ≡ 0 = omega arith in
    record { linked = refl; holds = sym ((λ i. none i ++ replicate (m i) 0)) }
laid page_size (x ∷ more) bytes pages sized different there fits =
    let room : ℕ = pages.usable - 4 in
    let least = sized.least in
    let most = sized.most in
    let behind : (n : ℕ) → Among more n → HasPage pages n = λ n among. there n (among-cons n x more among) in
    let rest : Pages = with_chain page_size more (drop room bytes) pages in
    let content : List ℕ = chain_page page_size (first_of more) (take room bytes) in
    let new : Pages = with_page x content rest in
    let was = laid page_size more (drop room bytes) pages sized (record { once = λ n. let all = different.once n in omega arith }) behind (omega (arith, length-drop room bytes)) in
    let apart : ¬ (Among more x) = λ again. let once = different.once x in let one = times-same x in omega arith in
    let same : (n : ℕ) → Among more n → SamePage rest new n = λ n among.
    page-stays x n content rest (λ e. let P : ℕ → Type 0 = λ k. Among more k in apart (subst P e among)) in
    let used : rest.usable ≡ pages.usable = chain-used page_size more (drop room bytes) pages in
    let content_is : new.bytes x ≡ content = page-written x content rest in
    let P : ℕ → Type 0 = λ k. AreLinked new k more 0 in
    record {
      linked = (
        refl,
        subst P (sym (ap (λ b. number_at 4 b 0) content_is ∙ next-put page_size (first_of more) (take room bytes) (first-fits page_size pages more sized behind)))
            (linked-kept rest new (first_of more) more same was.linked),
      );
      holds = (λ i. take (used i - 4) (drop 4 (content_is i)) ++ pieces-kept rest new more refl same i)
          ∙ (λ i. piece-put room page_size (first_of more) (take room bytes) (omega (arith, length-take room bytes)) (omega arith) i ++ was.holds i)
          ∙ front-joined room (length more) bytes ∙ ap (λ n. bytes ++ replicate (room * n - length bytes) 0) (add-one (length more));
    }

pub chain-written : ChainWritten
chain-written page_size pages numbers payload sized different there enough =
    let new : Pages = with_chain page_size numbers payload pages in
    let least = sized.least in
    let used : new.usable ≡ pages.usable = chain-used page_size numbers payload pages in
    let product = ap (λ n. (pages.usable - 4) * n) enough in
    let is = laid page_size numbers payload pages sized different there (omega (arith, needed_enough pages.usable (length payload) (omega arith))) in
    let m : ℕ = (pages.usable - 4) * length numbers - length payload in (
      record {
        chain = record {
          walked = record {
            linked = is.linked;
            each = λ n among. (
              record { least = (there n among).least; most = omega (arith, (there n among).most, chain-size page_size numbers payload pages) },
              chain-good page_size n numbers payload pages among,
            );
            different = different;
          };
          enough = enough ∙ ap (λ u. pages_needed u (length payload)) (sym used);
          holds = sym (take-append_seam payload (replicate m 0)) ∙ ap (λ l. take (length payload) l) (sym is.holds);
        };
        behind = m;
        zeros = is.holds;
      },
      record {
        size = chain-size page_size numbers payload pages;
        each = λ n out. chain-stays page_size n numbers payload pages out;
      },
    )
