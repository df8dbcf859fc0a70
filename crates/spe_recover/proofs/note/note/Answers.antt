use Rattle.std.proofs.Common.{ℕ, List, Option, ap, ◌∙◌}
use Rattle.spe_recover.specs.Seen.{rest_in, or_else}
use Rattle.spe_recover.proofs.note.note.Goals as goal

pub returns : goal.returns
returns c = record {
  held = λ held seen.
      let s = c.in_ok-note_holder.ensures.held held seen in
      record { holders = rw c.note_rest.ensures.holders s.holders; clash = rw c.note_rest.ensures.clash s.clash };
  rest =
      c.note_rest.ensures.rest
      ∙ ap (λ (rest : Option (List ℕ)). or_else rest (rest_in (record { page = c.args.saved.now.page; content = c.args.saved.now.content.now }))) c.note_holder.ensures.rest;
}
