-- The first bytes of the recovered page 1.
use Rattle.std.proofs.Common.{◌≡◌, ℕ, ◌+◌, ◌-◌, ◌*◌, ◌≤◌, List, [], ◌++◌, length, take, drop, refl, arith, sym, ap, ◌∙◌, Option, Some, None, length-take, length-drop}
use Rattle.std.specs.Prelude.{unwrap_or}
use Rattle.std.specs.List.{find}
use Rattle.std.specs.Option.{option_map}
use Rattle.std.proofs.Math.Seq.{take-add}
use Rattle.std.proofs.lemmas.List.{take_at, drop_at, drop-take, take-take, take-append-drop, drop_all, append-nil}
use Rattle.std.proofs.lemmas.Slice.{take-put_mid, drop-put_mid}
use borrow.Rule.Slice.PartMut.{put_mid, mid_of}
use Rattle.spe_model.specs.declared.file.FileNo.TheVariants.{Database}
use Rattle.spe_model.specs.Content.{Content, bytes_of}
use Rattle.spe_model.specs.Journal.{Saved}
use Rattle.spe_model.specs.Recovery.{is_of, all_hot, image_of, file_page_size, saved_or}
use Rattle.spe_recover.proofs.HeldLemmas.{rest_of}

laid_front : (file page : List ℕ) → 24 ≤ length file → take 100 (take 24 file ++ drop 24 page) ≡ take 24 file ++ take 76 (drop 24 page)
laid_front file page long =
    let size : length (take 24 file) ≡ 24 = length-take 24 file ∙ omega arith in
    take-add 24 76 (take 24 file ++ drop 24 page) ∙ rw (take_at (take 24 file) (drop 24 page) 24 size, drop_at (take 24 file) (drop 24 page) 24 size) refl

file_rest : (file : List ℕ) (page_size : ℕ) → 512 ≤ page_size → take 76 (drop 24 (take page_size file)) ≡ drop 24 (take 100 file)
file_rest file page_size low =
    let split : page_size ≡ 24 + (page_size - 24) = omega arith in
    ap (λ (n : ℕ). take 76 (drop 24 (take n file))) split
    ∙ ap (take 76) (drop-take 24 (page_size - 24) file)
    ∙ take-take 76 (page_size - 24) (drop 24 file) (omega arith)
    ∙ sym (drop-take 24 76 file)

by_found : (file : List ℕ) (page_size : ℕ) (found : Option Saved) → 24 ≤ length file → 512 ≤ page_size
    → take 100 (take 24 file ++ drop 24 (saved_or (take page_size (drop ((1 - 1) * page_size) file)) found))
    ≡ take 24 (take 100 file) ++ unwrap_or (option_map rest_of found) (drop 24 (take 100 file))
by_found file page_size None long low =
    let start : (1 - 1) * page_size ≡ 0 = omega arith in
    laid_front file (take page_size (drop ((1 - 1) * page_size) file)) long
    ∙ ap (λ (n : ℕ). take 24 file ++ take 76 (drop 24 (take page_size (drop n file)))) start
    ∙ ap (λ (rest : List ℕ). take 24 file ++ rest) (file_rest file page_size low)
    ∙ ap (λ (front : List ℕ). front ++ drop 24 (take 100 file)) (sym (take-take 24 100 file (omega arith)))
by_found file page_size (Some s) long low =
    laid_front file s.content long
    ∙ ap (λ (front : List ℕ). front ++ take 76 (drop 24 s.content)) (sym (take-take 24 100 file (omega arith)))

pub image_front : (content : Content) → 24 ≤ length (bytes_of content Database) → 512 ≤ file_page_size content
    → take 100 (image_of content 1)
    ≡ take 24 (take 100 (bytes_of content Database)) ++ unwrap_or (option_map rest_of (find (is_of 1) (all_hot content))) (drop 24 (take 100 (bytes_of content Database)))
unfolding image_of
image_front content long low = by_found (bytes_of content Database) (file_page_size content) (find (is_of 1) (all_hot content)) long low

pub put_rest : (front new rest : List ℕ) → length front ≡ 100 → length new ≡ length (mid_of 24 76 front) → new ≡ rest → put_mid 24 76 front new ≡ take 24 front ++ rest
put_rest front new rest long size is =
    let part : length new ≡ 76 = size ∙ omega (arith, length-take 76 (drop 24 front), length-drop 24 front) in
    let head : take 100 (put_mid 24 76 front new) ≡ take 24 front ++ new = take-put_mid 24 76 front new 100 (omega arith) (omega arith) in
    let tail : drop 100 (put_mid 24 76 front new) ≡ [] = drop-put_mid 24 76 front new 100 (omega arith) (omega arith) part ∙ drop_all 100 front (omega arith) in
    sym (take-append-drop 100 (put_mid 24 76 front new)) ∙ rw (head, tail) (append-nil (take 24 front ++ new)) ∙ ap (λ (r : List ℕ). take 24 front ++ r) is
