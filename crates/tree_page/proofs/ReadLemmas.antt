use Rattle.std.proofs.Common.{◌≡◌, ℕ, Option, Some, None, IfSome, IfNone, ◌+◌, ◌^◌, ◌≤◌, ◌<◌, inl, inr, ℤ, List, ◌++◌, length, take, drop, refl, sym, subst, ap, ◌∙◌, arith, append_assoc, length-append, length-drop}
use Rattle.std.specs.Int.{w64, cast_signed, cast_unsigned}
use Rattle.std.proofs.lemmas.Int.{of_z-to_z}
use Rattle.std.proofs.lemmas.List.{take-append-drop, take_at, drop_at, drop-drop, length-take-le}
use Rattle.std.proofs.lemmas.Bool.{cases_lt}
use Rattle.byteorder.specs.Endian.{big_number}
use Rattle.byteorder.specs.Numbers.{big_from-append, big_from-take}
use Rattle.db_format.specs.Spill.{local_size}
use Rattle.db_format.specs.Varint.{IsVarint, NoVarint, OneVarint}
use Rattle.tree_page.specs.declared.cell.LeafCell.{LeafCell}
use Rattle.tree_page.specs.declared.cell.InnerCell.{InnerCell}
use Rattle.tree_page.specs.Page.{leaf, inner, IsAt}
use Rattle.tree_page.specs.Steps.{ReadsVarint, ReadsNone, HasOverflow}

pub reads_varint : OneVarint → (bytes : List ℕ) (size : ℕ) (value : ℤ) → size ≤ length bytes → IsVarint (take size bytes) value → ReadsVarint bytes size value
reads_varint law bytes size value within spelled = record {
  within = within;
  spelled = spelled;
  only = λ text behind other is joined.
      let same = law text (take size bytes) behind (drop size bytes) other value is spelled (sym joined ∙ sym (take-append-drop size bytes)) in
      (ap length same.0 ∙ length-take-le size bytes within, same.1);
}

pub reads_none : (bytes : List ℕ) → NoVarint bytes → ReadsNone bytes
reads_none bytes none = λ text behind value is joined.
    none (length text) value (subst (λ xs. IsVarint xs value) (sym (ap (take (length text)) joined ∙ take_at text behind (length text) refl)) is)

pub found_varint : OneVarint → (bytes : List ℕ) (r : Option (ℤ × ℕ)) → IfSome r (λ f. f.1 ≤ length bytes) → IfSome r (λ f. IsVarint (take f.1 bytes) f.0)
    → IfSome r (λ f. ReadsVarint bytes f.1 f.0)
found_varint law bytes (Some f) within spelled = reads_varint law bytes f.1 f.0 within spelled
found_varint law bytes None within spelled = tt

pub found_none : (bytes : List ℕ) (r : Option (ℤ × ℕ)) → IfNone r (NoVarint bytes) → IfNone r (ReadsNone bytes)
found_none bytes (Some f) none = tt
found_none bytes None none = reads_none bytes none

regroup : (a b c d e : List ℕ) → (a ++ (b ++ (c ++ d))) ++ e ≡ a ++ (b ++ (c ++ (d ++ e)))
regroup a b c d e = simp append_assoc

same_cell : (c d : LeafCell) → c.rowid ≡ d.rowid → c.payload_len ≡ d.payload_len → c.local ≡ d.local → c.overflow ≡ d.overflow → leaf c ≡ leaf d
same_cell c d rowid payload_len local overflow =
    ap (λ r. leaf (record { rowid = r; payload_len = c.payload_len; local = c.local; overflow = c.overflow })) rowid
    ∙ ap (λ p. leaf (record { rowid = d.rowid; payload_len = p; local = c.local; overflow = c.overflow })) payload_len
    ∙ ap (λ l. leaf (record { rowid = d.rowid; payload_len = d.payload_len; local = l; overflow = c.overflow })) local
    ∙ ap (λ o. leaf (record { rowid = d.rowid; payload_len = d.payload_len; local = d.local; overflow = o })) overflow

-- what stands behind the front of a list
pub after : (xs front rest : List ℕ) (n : ℕ) → xs ≡ front ++ rest → length front ≡ n → drop n xs ≡ rest
after xs front rest n joined n_is = ap (drop n) joined ∙ drop_at front rest n n_is

-- the parts of a cell of a leaf, whatever it is, are those that are read
pub record LeafParts (tail : List ℕ) (a b size payload : ℕ) (key : ℤ) (cell : LeafCell) (usable : ℕ) : Type 0 where
  pub over : List ℕ
  pub behind : List ℕ
  pub payload_is : cell.payload_len ≡ payload
  pub key_is : cell.rowid ≡ key
  pub local_is : length cell.local ≡ local_size usable payload
  pub whole : payload ≤ length cell.local → (length over ≡ 0) × (cell.overflow ≡ 0)
  pub spilled : length cell.local < payload → (length over ≡ 4) × (cell.overflow ≡ big_number 4 over)
  pub tail_is : tail ≡ cell.local ++ (over ++ behind)
  pub size_is : size ≡ a + b + length cell.local + length over

pub leaf_parts : (bytes : List ℕ) (place a b size payload : ℕ) (value key : ℤ) (cell : LeafCell) → ReadsVarint (drop place bytes) a value
    → ReadsVarint (drop a (drop place bytes)) b key → payload ≡ cast_unsigned w64 value → IsAt bytes place size (leaf cell)
    → LeafParts (drop b (drop a (drop place bytes))) a b size payload key cell (length bytes)
leaf_parts bytes place a b size payload value key cell first second payload_is at =
    let s = at.spelled in
    let rest = cell.local ++ s.overflow_text in
    let one : drop place bytes ≡ s.length_text ++ ((s.rowid_text ++ rest) ++ at.behind) =
    at.joined ∙ ap (λ xs. xs ++ at.behind) s.joined ∙ append_assoc s.length_text (s.rowid_text ++ rest) at.behind in
    let length_read = first.only s.length_text ((s.rowid_text ++ rest) ++ at.behind) (cast_signed w64 cell.payload_len) s.sized one in
    let two : drop a (drop place bytes) ≡ s.rowid_text ++ (rest ++ at.behind) =
    after (drop place bytes) s.length_text ((s.rowid_text ++ rest) ++ at.behind) a one length_read.0 ∙ append_assoc s.rowid_text rest at.behind in
    let rowid_read = second.only s.rowid_text (rest ++ at.behind) cell.rowid s.keyed two in
    let three : drop b (drop a (drop place bytes)) ≡ cell.local ++ (s.overflow_text ++ at.behind) =
    after (drop a (drop place bytes)) s.rowid_text (rest ++ at.behind) b two rowid_read.0 ∙ append_assoc cell.local s.overflow_text at.behind in
    let same : cell.payload_len ≡ payload = sym (of_z-to_z w64 cell.payload_len s.unsigned) ∙ ap (cast_unsigned w64) length_read.1 ∙ sym payload_is in
    record {
      over = s.overflow_text;
      behind = at.behind;
      payload_is = same;
      key_is = rowid_read.1;
      local_is = s.kept ∙ ap (local_size (length bytes)) same;
      whole = subst (λ p. p ≤ length cell.local → (length s.overflow_text ≡ 0) × (cell.overflow ≡ 0)) same s.whole;
      spilled = subst (λ p. length cell.local < p → (length s.overflow_text ≡ 4) × (cell.overflow ≡ big_number 4 s.overflow_text)) same s.spilled;
      tail_is = three;
      size_is = sym at.size_is ∙ omega (arith, ap length s.joined, length_read.0, rowid_read.0, length-append s.length_text (s.rowid_text ++ rest), length-append s.rowid_text rest, length-append cell.local s.overflow_text);
    }

-- the tail has room for the overflow number of such a cell
pub parts_overflow : (tail : List ℕ) (a b size payload usable local : ℕ) (key : ℤ) (cell : LeafCell) → local ≡ local_size usable payload
    → (p : LeafParts tail a b size payload key cell usable) → HasOverflow tail local payload cell.overflow (length p.over)
parts_overflow tail a b size payload usable local key cell local_is p =
    let same : local ≡ length cell.local = local_is ∙ sym p.local_is in
    let all = ap length p.tail_is in
    record {
      within = omega (arith, all, length-append cell.local (p.over ++ p.behind), length-append p.over p.behind);
      whole = subst (λ n. payload ≤ n → (length p.over ≡ 0) × (cell.overflow ≡ 0)) (sym same) p.whole;
      spilled = λ more.
          let spilled = p.spilled (omega arith) in
          let here : drop local tail ≡ p.over ++ p.behind = after tail cell.local (p.over ++ p.behind) local p.tail_is (sym same) in
          (spilled.0, spilled.1 ∙ sym (ap (big_number 4) here ∙ big_from-append 4 p.over p.behind (omega (arith, spilled.0))));
    }

-- so without room there is none
pub leaf_short : (bytes : List ℕ) (place a b payload local : ℕ) (value key : ℤ) → ReadsVarint (drop place bytes) a value
    → ReadsVarint (drop a (drop place bytes)) b key → payload ≡ cast_unsigned w64 value → local ≡ local_size (length bytes) payload
    → ((over over_size : ℕ) → ¬ (HasOverflow (drop b (drop a (drop place bytes))) local payload over over_size))
    → (size : ℕ) (cell : LeafCell) → ¬ (IsAt bytes place size (leaf cell))
leaf_short bytes place a b payload local value key first second payload_is local_is none size cell at =
    let p = leaf_parts bytes place a b size payload value key cell first second payload_is at in
    none cell.overflow (length p.over) (parts_overflow _ a b size payload (length bytes) local key cell local_is p)

same_overflow : (tail : List ℕ) (local payload over over_size other other_size : ℕ) → HasOverflow tail local payload over over_size
    → HasOverflow tail local payload other other_size → (over_size ≡ other_size) × (over ≡ other)
same_overflow tail local payload over over_size other other_size one two =
    elim (cases_lt local payload) [
      | inl more ↦ ((one.spilled more).0 ∙ sym (two.spilled more).0, (one.spilled more).1 ∙ sym (two.spilled more).1)
      | inr all ↦ ((one.whole all).0 ∙ sym (two.whole all).0, (one.whole all).1 ∙ sym (two.whole all).1)
    ]

-- the place of the local part from the start
place_of : (bytes : List ℕ) (place a b : ℕ) → drop b (drop a (drop place bytes)) ≡ drop (place + (a + b)) bytes
place_of bytes place a b = drop-drop b a (drop place bytes) ∙ drop-drop (a + b) place bytes

-- the cell that is read is the only one
pub leaf_only : (bytes : List ℕ) (place a b payload local over over_size : ℕ) (value key : ℤ) → ReadsVarint (drop place bytes) a value
    → ReadsVarint (drop a (drop place bytes)) b key → payload ≡ cast_unsigned w64 value → local ≡ local_size (length bytes) payload
    → HasOverflow (drop b (drop a (drop place bytes))) local payload over over_size
    → (size : ℕ) (cell : LeafCell) → IsAt bytes place size (leaf cell)
    → (size ≡ a + b + local + over_size) × (leaf cell ≡ leaf (record { rowid = key; payload_len = payload; local = take local (drop (place + (a + b)) bytes); overflow = over }))
leaf_only bytes place a b payload local over over_size value key first second payload_is local_is has size cell at =
    let p = leaf_parts bytes place a b size payload value key cell first second payload_is at in
    let tail = drop b (drop a (drop place bytes)) in
    let same = same_overflow tail local payload over over_size cell.overflow (length p.over) has (parts_overflow tail a b size payload (length bytes) local key cell local_is p) in
    let local_len : length cell.local ≡ local = p.local_is ∙ sym local_is in
    let kept : cell.local ≡ take local (drop (place + (a + b)) bytes) =
    sym (ap (take local) (sym (place_of bytes place a b) ∙ p.tail_is) ∙ take_at cell.local (p.over ++ p.behind) local local_len) in (
      omega (arith, p.size_is, same.0),
      same_cell cell (record { rowid = key; payload_len = payload; local = take local (drop (place + (a + b)) bytes); overflow = over }) p.key_is p.payload_is kept (sym same.1),
    )

-- the parts are a cell
pub leaf_is : (bytes : List ℕ) (place a b payload local over over_size : ℕ) (value key : ℤ) → ReadsVarint (drop place bytes) a value
    → ReadsVarint (drop a (drop place bytes)) b key → value ≡ cast_signed w64 payload → payload < 2 ^ 64 → local ≡ local_size (length bytes) payload
    → HasOverflow (drop b (drop a (drop place bytes))) local payload over over_size
    → IsAt bytes place (a + b + local + over_size) (leaf (record { rowid = key; payload_len = payload; local = take local (drop (place + (a + b)) bytes); overflow = over }))
leaf_is bytes place a b payload local over over_size value key first second value_is unsigned local_is has =
    let rest = drop place bytes in
    let tail = drop b (drop a rest) in
    let kept = take local (drop (place + (a + b)) bytes) in
    let kept_is : kept ≡ take local tail = ap (take local) (sym (place_of bytes place a b)) in
    let kept_len : length kept ≡ local = ap length kept_is ∙ length-take-le local tail (omega (arith, has.within)) in
    let over_text = take over_size (drop local tail) in
    let over_len : length over_text ≡ over_size = length-take-le over_size (drop local tail) (omega (arith, has.within, length-drop local tail)) in
    let behind = drop over_size (drop local tail) in
    let a_len = length-take-le a rest first.within in
    let b_len = length-take-le b (drop a rest) second.within in
    let split : tail ≡ kept ++ (over_text ++ behind) =
    sym (ap (λ xs. xs ++ (over_text ++ behind)) kept_is ∙ ap (λ xs. take local tail ++ xs) (take-append-drop over_size (drop local tail)) ∙ take-append-drop local tail) in
    let text = take a rest ++ (take b (drop a rest) ++ (kept ++ over_text)) in
    record {
      text = text;
      behind = behind;
      spelled = record {
        length_text = take a rest;
        rowid_text = take b (drop a rest);
        overflow_text = over_text;
        sized = subst (IsVarint (take a rest)) value_is first.spelled;
        unsigned = unsigned;
        keyed = second.spelled;
        kept = kept_len ∙ local_is;
        whole = λ all. let w = has.whole (omega arith) in (over_len ∙ w.0, w.1);
        spilled = λ more. let w = has.spilled (omega arith) in
            (over_len ∙ w.0, w.1 ∙ sym (big_from-take 0 4 over_size (drop local tail) (omega (arith, w.0))));
        joined = refl;
      };
      size_is = omega (arith, a_len, b_len, kept_len, over_len, length-append (take a rest) (take b (drop a rest) ++ (kept ++ over_text)), length-append (take b (drop a rest)) (kept ++ over_text), length-append kept over_text);
      joined = sym (regroup (take a rest) (take b (drop a rest)) kept over_text behind
          ∙ ap (λ xs. take a rest ++ (take b (drop a rest) ++ xs)) (sym split)
          ∙ ap (λ xs. take a rest ++ xs) (take-append-drop b (drop a rest)) ∙ take-append-drop a rest);
    }

-- the same of the cells of interior pages: four bytes of the child, and the rowid behind
pub inner_only : (bytes : List ℕ) (place a child : ℕ) (key : ℤ) → child ≡ big_number 4 (drop place bytes) → ReadsVarint (drop 4 (drop place bytes)) a key
    → (size : ℕ) (cell : InnerCell) → IsAt bytes place size (inner cell) → (size ≡ 4 + a) × (inner cell ≡ inner (record { child = child; rowid = key }))
inner_only bytes place a child key child_is second size cell at =
    let s = at.spelled in
    let one : drop place bytes ≡ s.child_text ++ (s.rowid_text ++ at.behind) = at.joined ∙ ap (λ xs. xs ++ at.behind) s.joined ∙ append_assoc s.child_text s.rowid_text at.behind in
    let two = after (drop place bytes) s.child_text (s.rowid_text ++ at.behind) 4 one s.four in
    let read = second.only s.rowid_text at.behind cell.rowid s.keyed two in
    let same : cell.child ≡ child = s.child ∙ sym (child_is ∙ ap (big_number 4) one ∙ big_from-append 4 s.child_text (s.rowid_text ++ at.behind) (omega (arith, s.four))) in (
      sym at.size_is ∙ omega (arith, ap length s.joined, s.four, read.0, length-append s.child_text s.rowid_text),
      ap (λ c. inner (record { child = c; rowid = cell.rowid })) same ∙ ap (λ k. inner (record { child = child; rowid = k })) read.1,
    )

pub inner_none : (bytes : List ℕ) (place : ℕ) → ReadsNone (drop 4 (drop place bytes)) → (size : ℕ) (cell : InnerCell) → ¬ (IsAt bytes place size (inner cell))
inner_none bytes place none size cell at =
    let s = at.spelled in
    let one : drop place bytes ≡ s.child_text ++ (s.rowid_text ++ at.behind) = at.joined ∙ ap (λ xs. xs ++ at.behind) s.joined ∙ append_assoc s.child_text s.rowid_text at.behind in
    none s.rowid_text at.behind cell.rowid s.keyed (after (drop place bytes) s.child_text (s.rowid_text ++ at.behind) 4 one s.four)

pub inner_short : (bytes : List ℕ) (place : ℕ) → length (drop place bytes) < 4 → (size : ℕ) (cell : InnerCell) → ¬ (IsAt bytes place size (inner cell))
inner_short bytes place short size cell at =
    let s = at.spelled in
    absurd (omega (arith, ap length at.joined, length-append at.text at.behind, ap length s.joined, length-append s.child_text s.rowid_text, s.four))

pub inner_is : (bytes : List ℕ) (place a child : ℕ) (key : ℤ) → 4 ≤ length (drop place bytes) → child ≡ big_number 4 (drop place bytes) → ReadsVarint (drop 4 (drop place bytes)) a key
    → IsAt bytes place (4 + a) (inner (record { child = child; rowid = key }))
inner_is bytes place a child key room child_is second =
    let rest = drop place bytes in
    let four = length-take-le 4 rest room in
    let key_len = length-take-le a (drop 4 rest) second.within in
    record {
      text = take 4 rest ++ take a (drop 4 rest);
      behind = drop a (drop 4 rest);
      spelled = record { child_text = take 4 rest; rowid_text = take a (drop 4 rest); four = four; child = child_is ∙ sym (big_from-take 0 4 4 rest (omega arith)); keyed = second.spelled; joined = refl };
      size_is = omega (arith, length-append (take 4 rest) (take a (drop 4 rest)));
      joined = sym (append_assoc (take 4 rest) (take a (drop 4 rest)) (drop a (drop 4 rest)) ∙ ap (λ xs. take 4 rest ++ xs) (take-append-drop a (drop 4 rest)) ∙ take-append-drop 4 rest);
    }

-- a cell of a leaf without its first or second varint is none
pub leaf_no_length : (bytes : List ℕ) (place : ℕ) → ReadsNone (drop place bytes) → (size : ℕ) (cell : LeafCell) → ¬ (IsAt bytes place size (leaf cell))
leaf_no_length bytes place none size cell at =
    let s = at.spelled in
    let rest = cell.local ++ s.overflow_text in
    none s.length_text ((s.rowid_text ++ rest) ++ at.behind) (cast_signed w64 cell.payload_len) s.sized
    (at.joined ∙ ap (λ xs. xs ++ at.behind) s.joined ∙ append_assoc s.length_text (s.rowid_text ++ rest) at.behind)

pub leaf_no_rowid : (bytes : List ℕ) (place a : ℕ) (value : ℤ) → ReadsVarint (drop place bytes) a value → ReadsNone (drop a (drop place bytes))
    → (size : ℕ) (cell : LeafCell) → ¬ (IsAt bytes place size (leaf cell))
leaf_no_rowid bytes place a value first none size cell at =
    let s = at.spelled in
    let rest = cell.local ++ s.overflow_text in
    let one : drop place bytes ≡ s.length_text ++ ((s.rowid_text ++ rest) ++ at.behind) =
    at.joined ∙ ap (λ xs. xs ++ at.behind) s.joined ∙ append_assoc s.length_text (s.rowid_text ++ rest) at.behind in
    let length_read = first.only s.length_text ((s.rowid_text ++ rest) ++ at.behind) (cast_signed w64 cell.payload_len) s.sized one in
    none s.rowid_text (rest ++ at.behind) cell.rowid s.keyed
    (after (drop place bytes) s.length_text ((s.rowid_text ++ rest) ++ at.behind) a one length_read.0 ∙ append_assoc s.rowid_text rest at.behind)
