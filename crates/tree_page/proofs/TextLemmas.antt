use Rattle.std.proofs.Common.{ℤ, ◌≡◌, ℕ, ◌+◌, ◌^◌, ◌≤◌, ◌<◌, nat_lt, if◌then◌else◌, List, [], ◌++◌, length, refl, sym, subst, ap, ◌∙◌, inl, inr, arith, length-append}
use Rattle.std.specs.Int.{w64, cast_signed, cast_unsigned}
use Rattle.std.proofs.lemmas.List.{append-nil}
use Rattle.std.proofs.lemmas.Bool.{cases_lt}
use Rattle.std.proofs.lemmas.Bool.Decides.{nat_tests}
use Rattle.std.proofs.lemmas.Int.{of_z-to_z}
use Rattle.byteorder.specs.Endian.{big_bytes, big_number}
use Rattle.byteorder.specs.Numbers.{big_number-reads_back, length-bytes_high_first}
use Rattle.tree_page.specs.declared.cell.LeafCell.{LeafCell}
use Rattle.tree_page.specs.declared.cell.InnerCell.{InnerCell}
use Rattle.tree_page.specs.Page.{leaf, inner, SpellsLeaf}
use Rattle.tree_page.specs.Written.{varint_size, KeepsLocal}
use Rattle.tree_page.specs.Steps.{Lays, LaysVarint, LaysCell}
use Rattle.tree_page.proofs.LayLemmas.{lay_two}

reads_number : (n : ℕ) → n < 256 ^ 4 → n ≡ big_number 4 (big_bytes 4 n)
reads_number n fits = sym (ap (big_number 4) (sym (append-nil (big_bytes 4 n))) ∙ big_number-reads_back 4 n [] fits)

-- what stands behind the local part
pub record Behind (cell : LeafCell) (over : List ℕ) : Type 0 where
  pub whole : cell.payload_len ≤ length cell.local → over ≡ []
  pub spilled : length cell.local < cell.payload_len → over ≡ big_bytes 4 cell.overflow

behind_size : (cell : LeafCell) (over : List ℕ) → Behind cell over → length over ≡ (if nat_lt (length cell.local) cell.payload_len then 4 else 0)
behind_size cell over behind =
    elim (cases_lt (length cell.local) cell.payload_len) [
      | inl more ↦ ap length (behind.spilled more) ∙ length-bytes_high_first 4 cell.overflow ∙ grind (arith, nat_tests)
      | inr all ↦ ap length (behind.whole all) ∙ grind (arith, nat_tests)
    ]

-- the parts of the cell of a leaf, one behind the other, are the cell
pub leaf_laid : (old first second new over : List ℕ) (place size key_size : ℕ) (cell : LeafCell) → cell.payload_len < 2 ^ 64 → cell.overflow < 2 ^ 32
    → LaysVarint old first place (cast_signed w64 cell.payload_len) size → LaysVarint first second (place + size) cell.rowid key_size
    → Lays second new (place + size + key_size) (cell.local ++ over) → Behind cell over → LaysCell old new place (leaf cell)
leaf_laid old first second new over place size key_size cell unsigned small sized keyed rest behind =
    let text = sized.text ++ (keyed.text ++ (cell.local ++ over)) in
    let over_size = behind_size cell over behind in
    let bits : cast_unsigned w64 (cast_signed w64 cell.payload_len) ≡ cell.payload_len = of_z-to_z w64 cell.payload_len unsigned in
    let size_is : size ≡ varint_size cell.payload_len = sized.size_is ∙ ap varint_size bits in
    let tail = lay_two (place + size) (place + size + key_size) first second new keyed.text (cell.local ++ over) (omega (arith, keyed.length_is)) keyed.lays rest in
    let whole = lay_two place (place + size) old first new sized.text (keyed.text ++ (cell.local ++ over)) (omega (arith, sized.length_is)) sized.lays tail in
    let spells : (usable : ℕ) → KeepsLocal usable cell → SpellsLeaf usable text cell = λ usable sound. record {
      length_text = sized.text;
      rowid_text = keyed.text;
      overflow_text = over;
      sized = sized.spelled;
      unsigned = unsigned;
      keyed = keyed.spelled;
      kept = sound.kept;
      whole = λ all. (ap length (behind.whole all), sound.whole all);
      spilled = λ more. (ap length (behind.spilled more) ∙ length-bytes_high_first 4 cell.overflow, reads_number cell.overflow small ∙ ap (big_number 4) (sym (behind.spilled more)));
      joined = refl;
    } in
    record {
      text = text;
      is = λ usable sound. record {
        spelled = spells usable sound;
        shortest = λ other of_other.
            let a = sized.shortest of_other.length_text of_other.sized in
            let b = keyed.shortest of_other.rowid_text of_other.keyed in
            let c : length over ≤ length of_other.overflow_text =
            elim (cases_lt (length cell.local) cell.payload_len) [
              | inl more ↦ omega (arith, (of_other.spilled more).0, ap length (behind.spilled more), length-bytes_high_first 4 cell.overflow)
              | inr all ↦ omega (arith, ap length (behind.whole all))
            ] in
            omega (
              arith,
              ap length of_other.joined,
              length-append of_other.length_text (of_other.rowid_text ++ (cell.local ++ of_other.overflow_text)),
              length-append of_other.rowid_text (cell.local ++ of_other.overflow_text),
              length-append cell.local of_other.overflow_text,
              length-append sized.text (keyed.text ++ (cell.local ++ over)),
              length-append keyed.text (cell.local ++ over),
              length-append cell.local over,
            );
      };
      length_is = omega (
        arith,
        length-append sized.text (keyed.text ++ (cell.local ++ over)),
        length-append keyed.text (cell.local ++ over),
        length-append cell.local over,
        sized.length_is,
        keyed.length_is,
        keyed.size_is,
      );
      lays = whole;
    }

-- the two parts of the cell of an interior page are the cell
pub inner_laid : (old first new : List ℕ) (place size : ℕ) (cell : InnerCell) → cell.child < 2 ^ 32
    → Lays old first place (big_bytes 4 cell.child) → LaysVarint first new (place + 4) cell.rowid size → LaysCell old new place (inner cell)
inner_laid old first new place size cell small child keyed =
    let four = length-bytes_high_first 4 cell.child in
    let text = big_bytes 4 cell.child ++ keyed.text in
    record {
      text = text;
      is = λ usable sound. record {
        spelled = record { child_text = big_bytes 4 cell.child; rowid_text = keyed.text; four = four; child = reads_number cell.child small; keyed = keyed.spelled; joined = refl };
        shortest = λ other of_other.
            let b = keyed.shortest of_other.rowid_text of_other.keyed in
            omega (arith, ap length of_other.joined, of_other.four, length-append of_other.child_text of_other.rowid_text, length-append (big_bytes 4 cell.child) keyed.text);
      };
      length_is = omega (arith, length-append (big_bytes 4 cell.child) keyed.text, keyed.length_is, keyed.size_is);
      lays = lay_two place (place + 4) old first new (big_bytes 4 cell.child) keyed.text (omega arith) child keyed.lays;
    }

pub same_varint : (old new : List ℕ) (place size : ℕ) (given value : ℤ) → given ≡ value → LaysVarint old new place given size → LaysVarint old new place value size
same_varint old new place size given value same lays = subst (λ v. LaysVarint old new place v size) same lays

-- the same from the steps of the code, where the payload spills
pub leaf_spilled : (old first second third new local : List ℕ) (place size key_size : ℕ) (given_len given_key : ℤ) (cell : LeafCell)
    → cell.payload_len < 2 ^ 64 → cell.overflow < 2 ^ 32 → given_len ≡ cast_signed w64 cell.payload_len → given_key ≡ cell.rowid → local ≡ cell.local
    → LaysVarint old first place given_len size → LaysVarint first second (place + size) given_key key_size
    → Lays second third (place + size + key_size) local → length local < cell.payload_len
    → Lays third new (place + size + key_size + length local) (big_bytes 4 cell.overflow) → LaysCell old new place (leaf cell)
leaf_spilled old first second third new local place size key_size given_len given_key cell unsigned small len_is key_is local_is sized keyed laid more over =
    let both = lay_two (place + size + key_size) (place + size + key_size + length local) second third new local (big_bytes 4 cell.overflow) refl laid over in
    let more_local : length cell.local < cell.payload_len = subst (λ (xs : List ℕ). length xs < cell.payload_len) local_is more in
    leaf_laid old first second new (big_bytes 4 cell.overflow) place size key_size cell unsigned small
    (same_varint old first place size given_len _ len_is sized) (same_varint first second (place + size) key_size given_key _ key_is keyed)
    (subst (λ xs. Lays second new (place + size + key_size) (xs ++ big_bytes 4 cell.overflow)) local_is both)
    (record { whole = λ all. absurd (omega arith); spilled = λ _. refl })

-- and where it does not
pub leaf_whole : (old first second new local : List ℕ) (place size key_size : ℕ) (given_len given_key : ℤ) (cell : LeafCell)
    → cell.payload_len < 2 ^ 64 → cell.overflow < 2 ^ 32 → given_len ≡ cast_signed w64 cell.payload_len → given_key ≡ cell.rowid → local ≡ cell.local
    → LaysVarint old first place given_len size → LaysVarint first second (place + size) given_key key_size
    → Lays second new (place + size + key_size) local → cell.payload_len ≤ length local → LaysCell old new place (leaf cell)
leaf_whole old first second new local place size key_size given_len given_key cell unsigned small len_is key_is local_is sized keyed laid all =
    let all_local : cell.payload_len ≤ length cell.local = subst (λ (xs : List ℕ). cell.payload_len ≤ length xs) local_is all in
    leaf_laid old first second new [] place size key_size cell unsigned small
    (same_varint old first place size given_len _ len_is sized) (same_varint first second (place + size) key_size given_key _ key_is keyed)
    (subst (Lays second new (place + size + key_size)) (local_is ∙ sym (append-nil cell.local)) laid)
    (record { whole = λ _. refl; spilled = λ more. absurd (omega arith) })
