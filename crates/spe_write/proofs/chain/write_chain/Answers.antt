use Rattle.std.proofs.Common.{rules, ◌≡◌, ◌∙◌, ◌+◌, ◌-◌, ◌*◌, ◌<◌, ◌≤◌, ℕ, length, min, take, drop, refl, sym, ap, subst, arith}
use Rattle.std.proofs.lemmas.List.{length-drop, length-take, take-take, take_all}
use Rattle.spe_model.specs.Chain.{link_room, links}
use Rattle.spe_write.proofs.LinkLemmas.{keeps_both, links_cover, links_full, times_more, written_back}
use Rattle.spe_write.proofs.WriteLemmas.{none_held, write_ends, write_fails, write_step, written_at, written_none}
use Rattle.spe_write.proofs.chain.write_chain.Goals as goal

pub links-init : goal.links-init
links-init g c =
    let s = c.args.space.now in
    let bytes = c.args.bytes.now in
    let used = g.S.Pages.used s in
    let wide : 5 ≤ used = omega (arith, c.usable-usable.ensures.range.0, c.usable-usable.ensures.value) in
    let index : c.links_of-index.result ≡ links used (length bytes) = c.links_of-index.ensures ∙ ap (λ (u : ℕ). links u (length bytes)) c.usable-usable.ensures.value in
    let cover : length bytes ≤ c.links_of-index.result * link_room used = subst (λ (n : ℕ). length bytes ≤ n * link_room used) (sym index) (links_cover used (length bytes) wide) in
    record {
      kept = record { earlier = λ pages agrees. agrees; told = refl; size = refl; used = refl; limit = refl; sealed = refl; count = omega arith };
      refusal = refl;
      buf = search rules;
      low = omega (arith, index);
      left = sym (take_all (c.links_of-index.result * link_room used) bytes cover);
      written = λ pages agrees ready.
          written_at g.S.Pages s s pages bytes (c.links_of-index.result * link_room used) (c.links_of-index.result * link_room used) 0 (links used (length bytes) - c.links_of-index.result) 0 refl
          (omega (arith, index)) (written_none g.S.Pages c.shifts_law.ensures.idle s pages bytes (c.links_of-index.result * link_room used) ready cover);
    }

-- a place where a piece begins lies before the end
place_low : (used usable len index : ℕ) → usable ≡ used → 480 ≤ usable → 0 < index → index ≤ links used len → (index - 1) * (usable - 4) < len
place_low used usable len index same wide some low = subst (λ (u : ℕ). (index - 1) * (u - 4) < len) (sym same) (links_full used len index (omega (arith, wide, same)) some low)

pub start_of-start-requires : goal.start_of-start-requires
start_of-start-requires g c =
    place_low (g.S.Pages.used c.args.space.now) c.usable-usable.result (length c.args.bytes.now) c.links.index c.usable-usable.ensures.value c.usable-usable.ensures.range.0 c.links-test.true c.links.invariant.low

pub lay_link-requires-clause-room : goal.lay_link-requires-clause-room
lay_link-requires-clause-room g c =
    let used = g.S.Pages.used c.args.space.now in
    let room : c.usable-usable.result - 4 ≡ used - 4 = ap (λ (u : ℕ). u - 4) c.usable-usable.ensures.value in
    let place : c.start_of-start.result ≡ (c.links.index - 1) * link_room used = c.start_of-start.ensures ∙ ap (λ (k : ℕ). (c.links.index - 1) * k) room in
    let long : length c.links.left.now ≡ min (c.links.index * link_room used) (length c.args.bytes.now) = ap length c.links.invariant.left ∙ length-take (c.links.index * link_room used) c.args.bytes.now in
    let more : c.links.index * link_room used ≡ (c.links.index - 1) * link_room used + link_room used = times_more c.links.index (link_room used) c.links-test.true in
    let piece : length c.split_at.result.1.now ≡ length c.links.left.now - c.start_of-start.result = ap length c.split_at.ensures.back ∙ length-drop c.start_of-start.result c.links.left.now in
    omega (arith, place, long, more, piece, c.usable-usable.ensures.range.0, c.usable-usable.ensures.range.1, c.usable-usable.ensures.value, c.links.invariant.kept.size)

pub split_at-requires : goal.split_at-requires
split_at-requires g c =
    let used = g.S.Pages.used c.args.space.now in
    let len = length c.args.bytes.now in
    let under = links_full used len c.links.index (omega (arith, c.usable-usable.ensures.range.0, c.usable-usable.ensures.value)) c.links-test.true c.links.invariant.low in
    let room : c.usable-usable.result - 4 ≡ used - 4 = ap (λ (u : ℕ). u - 4) c.usable-usable.ensures.value in
    let place : c.start_of-start.result ≡ (c.links.index - 1) * (used - 4) = c.start_of-start.ensures ∙ ap (λ (k : ℕ). (c.links.index - 1) * k) room in
    let long : length c.links.left.now ≡ min (c.links.index * link_room used) len = ap length c.links.invariant.left ∙ length-take (c.links.index * link_room used) c.args.bytes.now in
    let more : c.links.index * link_room used ≡ (c.links.index - 1) * link_room used + link_room used = times_more c.links.index (link_room used) c.links-test.true in
    omega (arith, under, long, more, place)

pub returns-in-Err-clause-spares : goal.returns-in-Err-clause-spares
returns-in-Err-clause-spares g c = λ pages agrees ready held.
    let s = c.args.space.now in
    let now = c.links.space in
    let bytes = c.args.bytes.now in
    let n = links (g.S.Pages.used s) (length bytes) in
    let written = c.links.invariant.written pages (c.in-Err.ensures.kept.earlier pages agrees) ready in
    write_fails g.S.Pages c.shifts_law.ensures.spares c.shifts_law.ensures.spares_beside c.shifts_law.ensures.spares_more s now c.lay_link.new.space pages bytes
    (c.links.index * link_room (g.S.Pages.used s)) c.links.index n c.links.first c.links-test.true c.links.invariant.low written
    (c.in-Err.ensures.spares pages agrees written.shifts.ready (none_held g.S.Pages now pages))

pub links-preserved : goal.links-preserved
links-preserved g c =
    let s = c.args.space.now in
    let now = c.links.space in
    let new = c.lay_link.new.space in
    let bytes = c.args.bytes.now in
    let used = g.S.Pages.used s in
    let whole_buf : length c.as_mut_slice.result.now ≡ length c.links.buf.items = ap length c.as_mut_slice.ensures.value in
    let wide : 5 ≤ used = omega (arith, c.usable-usable.ensures.range.0, c.usable-usable.ensures.value) in
    let room : c.usable-usable.result - 4 ≡ used - 4 = ap (λ (u : ℕ). u - 4) c.usable-usable.ensures.value in
    let place : c.start_of-start.result ≡ (c.links.index - 1) * link_room used = c.start_of-start.ensures ∙ ap (λ (k : ℕ). (c.links.index - 1) * k) room in
    let less : (c.links.index - 1) * link_room used ≤ c.links.index * link_room used = let more = times_more c.links.index (link_room used) c.links-test.true in omega (arith, more) in
    let rest : c.split_at.result.0.now ≡ take ((c.links.index - 1) * link_room used) bytes =
    c.split_at.ensures.front ∙ ap (λ (k : ℕ). take k c.links.left.now) place ∙ ap (take ((c.links.index - 1) * link_room used)) c.links.invariant.left ∙ take-take ((c.links.index - 1) * link_room used) (c.links.index * link_room used) bytes less in
    let piece : c.split_at.result.1.now ≡ drop ((c.links.index - 1) * link_room used) c.links.left.now = c.split_at.ensures.back ∙ ap (λ (k : ℕ). drop k c.links.left.now) place in
    record {
      kept = keeps_both g.S.Pages s now new c.links.invariant.kept c.in-Ok.ensures.kept;
      refusal = c.in-Ok.ensures.refusal ∙ c.links.invariant.refusal;
      buf = written_back c.links.buf.len c.lay_link.new.buf c.links.buf.items (omega (arith, c.lay_link.auto.buf, whole_buf)) (omega (arith, c.as_mut_slice.ensures.len, whole_buf)) ∙ c.links.invariant.buf;
      low = omega (arith, c.links.invariant.low);
      left = rest;
      written = λ pages agrees ready.
          let written = c.links.invariant.written pages (c.in-Ok.ensures.kept.earlier pages agrees) ready in
          write_step g.S.Pages c.shifts_law.ensures.both c.shifts_law.ensures.beside c.forest_law.ensures.chain s now new pages bytes c.split_at.result.1.now c.links.left.now c.links.index c.links.first c.in-Ok.page
          wide c.links-test.true c.links.invariant.low c.links.invariant.left piece written
          (c.in-Ok.ensures.shifts pages agrees written.shifts.ready (none_held g.S.Pages now pages)) c.in-Ok.ensures.put c.in-Ok.ensures.small;
    }

pub returns-clause-chain : goal.returns-clause-chain
returns-clause-chain g c = λ pages agrees ready held.
    write_ends g.S.Pages c.args.space.now c.links.space pages c.args.bytes.now c.links.index c.links.first c.links-test.false (c.links.invariant.written pages agrees ready)
