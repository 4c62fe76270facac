use Rattle.std.proofs.Common.{◌≡◌, ℕ, List, [], ◌∷◌, ◌++◌, drop, replicate, ap, ◌∙◌, arith}
use Rattle.std.proofs.lemmas.List.{drop-drop, length-take-le}
use borrow.Rule.Slice.PartMut.{put_mid}
use Rattle.db_format.specs.Header.{title}
use Rattle.db_format.specs.HeaderSteps.{beginning}
use Rattle.db_format.proofs.header.begin_header.Goals as goal

-- the title, the eight bytes and the zeros laid over a page
laid : (page text eight zeros : List ℕ) → text ≡ title → eight ≡ 0 ∷ 0 ∷ 1 ∷ 1 ∷ 0 ∷ 64 ∷ 32 ∷ 32 ∷ [] → zeros ≡ replicate 76 0
    → put_mid 24 76 (put_mid 16 8 (text ++ drop 16 page) eight) zeros ≡ beginning ++ (replicate 76 0 ++ drop 100 page)
laid page text eight zeros text_is eight_is zeros_is =
    ap (λ t. put_mid 24 76 (put_mid 16 8 (t ++ drop 16 page) eight) zeros) text_is
    ∙ ap (λ e. put_mid 24 76 (put_mid 16 8 (title ++ drop 16 page) e) zeros) eight_is
    ∙ ap (λ z. beginning ++ (z ++ drop 76 (drop 8 (drop 16 page)))) zeros_is
    ∙ ap (λ rest. beginning ++ (replicate 76 0 ++ rest)) (drop-drop 76 8 (drop 16 page) ∙ drop-drop 84 16 page)

pub copy_from_slice-requires : goal.copy_from_slice-requires
copy_from_slice-requires c = length-take-le 16 c.args.page.now (omega arith)

pub returns : goal.returns
returns c = laid c.args.page.now _ _ _ c.copy_from_slice.ensures.after c.copy_from_slice-2.ensures.after c.copy_from_slice-3.ensures.after
