use Rattle.std.proofs.Common.{◌≡◌, ◌∙◌, ap, sym, refl, subst}
use Rattle.spe_core.specs.Enabled.{count_of}
use Rattle.spe_transactions.specs.Pages.{named_count}
use Rattle.spe_stored.specs.Stored.{alone}
use Rattle.spe_core.specs.Opening.{opened}
use Rattle.spe_core.specs.Sound.{IsSound}
use Rattle.spe_core.proofs.OpeningLemmas.{file_of, some_slots}
use Rattle.spe_core.proofs.Sound.{sound_opened}
use Rattle.spe_core.proofs.machine.Core.new.Goals as goal

pub invariant_of-result : goal.invariant_of-result
invariant_of-result c =
    let bytes = c.args.pages in
    let files : c.in_ok-files.files ≡ alone bytes = c.in_ok-files.ensures ∙ ap alone c.into_vec.ensures in
    let is : opened bytes c.args.slots ≡ _ = sym (rw (files, c.of-opening.ensures, c.new.ensures, c.new-2.ensures.items, c.new-3.ensures) refl) in
    record {
      sound = subst IsSound is (sound_opened bytes c.args.slots c.requires.opening (some_slots c.args.slots c.requires.slots));
      count = c.named_count-count.ensures ∙ ap named_count c.as_slice.ensures ∙ (file_of bytes c.requires.opening).count ∙ ap count_of is;
    }
