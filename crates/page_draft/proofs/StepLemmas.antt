-- What one page more, or one page put, makes of the lists of a draft.
use Rattle.std.proofs.Common.{◌≡◌, ℕ, ◌≤◌, ◌∙◌, List, [], ◌∷◌, ◌++◌, length, take, map, set, get_or, sym, ap, subst, arith, min, None, Some}
use Rattle.std.proofs.lemmas.List.{take_all, take-append-le, map-append, map-set, length-map, length-take}
use Rattle.std.proofs.Math.Seq.{map-set_same}
use Rattle.page_draft.specs.Slots.{Shown, good, shown, read_of, marked_of, now_of}
use Rattle.page_draft.specs.declared.slot.ReadPage.{ReadPage}
use Rattle.page_draft.specs.declared.slot.Slot.{Slot}
use Rattle.page_draft.specs.declared.draft.PageDraft.{PageDraft}
use Rattle.page_draft.specs.Draft.{read_list, IsClean}
use Rattle.page_draft.proofs.ChangeLemmas.{take-shown}

-- ---- a page put

pub put-read : (p : ℕ) (slots : List Slot) (place : ℕ) (slot : Slot) (bytes : List ℕ) → slot ≡ get_or slots place slot
    → map (read_of p) (set slots place (record slot { put = Some bytes })) ≡ map (read_of p) slots
put-read p slots place slot bytes is = map-set_same (read_of p) slots place (record slot { put = Some bytes }) slot (ap (read_of p) is)

pub put-marked : (p : ℕ) (slots : List Slot) (place : ℕ) (slot : Slot) (bytes : List ℕ) → slot ≡ get_or slots place slot
    → map (marked_of p) (set slots place (record slot { put = Some bytes })) ≡ map (marked_of p) slots
put-marked p slots place slot bytes is = map-set_same (marked_of p) slots place (record slot { put = Some bytes }) slot (ap (marked_of p) is)

pub put-now : (p : ℕ) (slots : List Slot) (place : ℕ) (slot : Slot) (bytes : List ℕ)
    → map (now_of p) (set slots place (record slot { put = Some bytes })) ≡ set (map (now_of p) slots) place (good bytes)
put-now p slots place slot bytes = map-set (now_of p) slots place (record slot { put = Some bytes })

-- ---- a page more

pub shown-more : (view : Slot → Shown) (slots : List Slot) (slot : Slot) → map view (slots ++ slot ∷ []) ≡ map view slots ++ view slot ∷ []
shown-more view slots slot = map-append view slots (slot ∷ [])

-- the first of them stay
pub first-stay : (view : Slot → Shown) (n : ℕ) (slots : List Slot) (slot : Slot) → n ≤ length slots → take n (map view (slots ++ slot ∷ [])) ≡ take n (map view slots)
first-stay view n slots slot within =
    ap (take n) (shown-more view slots slot) ∙ take-append-le n (map view slots) (view slot ∷ []) (subst (λ k. n ≤ k) (sym (length-map slots view)) within)

-- of a clean draft all pages were read
all_read : (d : PageDraft) → IsClean d → length d.slots.items ≤ d.read_len
all_read d clean =
    let same : length d.slots.items ≡ min d.read_len (length d.slots.items) =
    sym (length-map d.slots.items (now_of d.page_size)) ∙ ap length clean.now_are ∙ length-take d.read_len (map (read_of d.page_size) d.slots.items)
    ∙ ap (λ k. min d.read_len k) (length-map d.slots.items (read_of d.page_size)) in
    omega (arith, same)

read_whole : (d : PageDraft) → IsClean d → read_list d ≡ map (read_of d.page_size) d.slots.items
read_whole d clean = take_all d.read_len (map (read_of d.page_size) d.slots.items) (subst (λ k. k ≤ d.read_len) (sym (length-map d.slots.items (read_of d.page_size))) (all_read d clean))

-- with one more read, all three lists have it behind those that were read
pub more-read : (d : PageDraft) (n : ℕ) (slots : List Slot) (page : ReadPage) → IsClean d → slots ≡ d.slots.items ++ record { read = page; marked = None; put = None } ∷ [] → length slots ≡ n
    → take n (map (read_of d.page_size) slots) ≡ read_list d ++ shown d.page_size page ∷ []
more-read d n slots page clean is len =
    take-shown (read_of d.page_size) n slots len ∙ ap (map (read_of d.page_size)) is ∙ shown-more (read_of d.page_size) d.slots.items (record { read = page; marked = None; put = None })
    ∙ ap (λ pages. pages ++ shown d.page_size page ∷ []) (sym (read_whole d clean))

pub more-now : (d : PageDraft) (slots : List Slot) (page : ReadPage) → IsClean d → slots ≡ d.slots.items ++ record { read = page; marked = None; put = None } ∷ []
    → map (now_of d.page_size) slots ≡ read_list d ++ shown d.page_size page ∷ []
more-now d slots page clean is =
    ap (map (now_of d.page_size)) is ∙ shown-more (now_of d.page_size) d.slots.items (record { read = page; marked = None; put = None })
    ∙ ap (λ pages. pages ++ shown d.page_size page ∷ []) clean.now_are

marked_whole : (d : PageDraft) → IsClean d → map (marked_of d.page_size) d.slots.items ≡ read_list d
marked_whole d clean =
    let within : length d.slots.items ≤ d.marked_len = omega (arith, all_read d clean, d.read_within) in
    sym (take_all d.marked_len (map (marked_of d.page_size) d.slots.items) (subst (λ k. k ≤ d.marked_len) (sym (length-map d.slots.items (marked_of d.page_size))) within)) ∙ clean.marked_are

pub more-marked : (d : PageDraft) (n : ℕ) (slots : List Slot) (page : ReadPage) → IsClean d → slots ≡ d.slots.items ++ record { read = page; marked = None; put = None } ∷ [] → length slots ≡ n
    → take n (map (marked_of d.page_size) slots) ≡ read_list d ++ shown d.page_size page ∷ []
more-marked d n slots page clean is len =
    take-shown (marked_of d.page_size) n slots len ∙ ap (map (marked_of d.page_size)) is ∙ shown-more (marked_of d.page_size) d.slots.items (record { read = page; marked = None; put = None })
    ∙ ap (λ pages. pages ++ shown d.page_size page ∷ []) (marked_whole d clean)
