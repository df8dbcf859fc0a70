use Rattle.std.proofs.Common.{◌≡◌, ◌==◌, ◌||◌, ◌<◌, ◌/◌, ◌%◌, ◌*◌, ◌^◌, ◌∙◌, ℕ, slice_set, slice_index, length, bit_or, subst, sym}
use Rattle.std.proofs.lemmas.Grind.{get_or_default_zero}
use Rattle.spe_check.specs.Marked.{is_marked}
use Rattle.spe_check.proofs.MarkLemmas.{marked_more}
use Rattle.spe_check.proofs.met.mark.Goals as goal

pub returns-clause-marked : goal.returns-clause-marked
returns-clause-marked c n =
    let words = c.args.bits.now.items in
    let page = c.args.page in
    let P : ℕ → Type 0 = λ word. is_marked (slice_set words (page / 64) (bit_or word (1 * 2 ^ (page % 64) % 18446744073709551616))) n ≡ (page == n || is_marked words n) in
    let Q : ℕ → Type 0 = λ m. page / 64 < m in
    let inside : page / 64 < length words = subst Q c.args.bits.now.ok.0 c.requires in
    let word_is : c.index-word.result.now ≡ slice_index words (page / 64) = c.index-word.ensures ∙ get_or_default_zero words (page / 64) _ inside in
    subst P (sym word_is) (marked_more words page n inside)
