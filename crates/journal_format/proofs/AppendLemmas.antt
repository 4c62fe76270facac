-- One append after another.
use Rattle.std.proofs.Common.{◌≡◌, ℕ, ◌∙◌, List, [], ◌∷◌, ◌++◌, ap, length, drop, append_assoc, replicate, sym}
use Rattle.std.proofs.lemmas.List.{length-map}
use Rattle.std.specs.List.{flat_map}
use Rattle.byteorder.specs.Endian.{big_bytes}
use Rattle.journal_format.specs.Undo.{Undo}
use Rattle.journal_format.specs.Journal.{magic, record_of, trailer_of, journal}
use Rattle.journal_format.specs.Steps.{header}
use Rattle.journal_format.specs.Values.{paged, all_paged}
use Rattle.journal_format.specs.declared.pages.NumberedPage.{NumberedPage}

-- eight pieces behind what is there
pub eight_pieces : (o x1 x2 x3 x4 x5 x6 x7 all a b c d e f g h : List ℕ) → x1 ≡ o ++ a → x2 ≡ x1 ++ b → x3 ≡ x2 ++ c → x4 ≡ x3 ++ d → x5 ≡ x4 ++ e → x6 ≡ x5 ++ f → x7 ≡ x6 ++ g → all ≡ x7 ++ h
    → all ≡ o ++ (a ++ (b ++ (c ++ (d ++ (e ++ (f ++ (g ++ h)))))))
eight_pieces o x1 x2 x3 x4 x5 x6 x7 all a b c d e f g h p q r s t u v w = rw (w, v, u, t, s, r, q, p) (simp append_assoc)

grouped : (a b c d e f zeros records end : List ℕ) → ((a ++ (b ++ (c ++ (d ++ (e ++ (f ++ zeros)))))) ++ records) ++ end ≡ a ++ (b ++ (c ++ (d ++ (e ++ (f ++ (zeros ++ (records ++ end)))))))
grouped a b c d e f zeros records end = simp append_assoc

-- the header, the records and the trailer are the journal
pub whole_journal : (nonce count : ℕ) (u : Undo) (pages : List NumberedPage) (none one two all : List ℕ) → none ≡ [] → all_paged pages ≡ u.originals → count ≡ length pages
    → one ≡ none ++ header count nonce u.initial u.page → two ≡ one ++ flat_map (record_of nonce) (all_paged pages) → all ≡ two ++ trailer_of u.page u.super_name → all ≡ journal 0 nonce u
whole_journal nonce count u pages none one two all empty are counted first second third =
    let records = flat_map (record_of nonce) u.originals in
    let end = trailer_of u.page u.super_name in
    let number : count ≡ length u.originals = counted ∙ sym (length-map pages paged) ∙ ap length are in
    let head : one ≡ header (length u.originals) nonce u.initial u.page = first ∙ ap (λ l. l ++ header count nonce u.initial u.page) empty ∙ ap (λ n. header n nonce u.initial u.page) number in
    third
    ∙ ap (λ l. l ++ end) (second ∙ ap (λ l. l ++ flat_map (record_of nonce) (all_paged pages)) head ∙ ap (λ rs. header (length u.originals) nonce u.initial u.page ++ flat_map (record_of nonce) rs) are)
    ∙ grouped (0 ∷ drop 1 magic) (big_bytes 4 (length u.originals)) (big_bytes 4 nonce) (big_bytes 4 u.initial) (big_bytes 4 512) (big_bytes 4 u.page) (replicate 484 0) records end
