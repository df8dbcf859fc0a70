use Rattle.std.proofs.Common.{◌≡◌, ◌∙◌, ◌+◌, ◌++◌, ℕ, Option, ap, arith, length, refl, subst, sym}
use Rattle.spe_model.specs.Journal.{numbers_from}
use Rattle.spe_model.specs.Paging.{Paging}
use Rattle.spe_model.specs.Trace.{History}
use Rattle.spe_convert.specs.Changes.{added, before, front_page, server_changes, supply}
use Rattle.spe_convert.specs.Dealt.{first_of}
use Rattle.spe_convert.specs.Made.{change_with}
use Rattle.spe_convert.specs.Reading.{WhereHeld, usable_of}
use Rattle.spe_convert.proofs.FrontLemmas.{front_long}
use Rattle.spe_convert.proofs.MadeLemmas.{server_are, server_made, supply_some}
use Rattle.spe_convert.proofs.PrepareLemmas.{supply_length}
use Rattle.spe_convert.proofs.ReadLemmas.{where_both}
use Rattle.spe_convert.proofs.server.server_changes.Goals as goal

pub dealt_changes-requires-clause-long : goal.dealt_changes-requires-clause-long
dealt_changes-requires-clause-long g c =
    let found = c.args.found.now in
    let are : c.as_slice-2.result.now ≡ supply found.pages c.args.lists c.args.free.now =
    c.as_slice-2.ensures.value ∙ c.in_ok-pages.ensures ∙ ap (λ (n : ℕ). c.args.free.now ++ numbers_from (found.pages + 1) n) c.requires.more in
    let long = ap length are in
    let some = supply_length found.pages c.args.lists c.args.free.now in
    omega (arith, long, some)

pub dealt_changes-requires-clause-numbered : goal.dealt_changes-requires-clause-numbered
dealt_changes-requires-clause-numbered g c =
    let found = c.args.found.now in
    let are : c.as_slice-2.result.now ≡ supply found.pages c.args.lists c.args.free.now =
    c.as_slice-2.ensures.value ∙ c.in_ok-pages.ensures ∙ ap (λ (n : ℕ). c.args.free.now ++ numbers_from (found.pages + 1) n) c.requires.more in
    supply_some found.pages c.args.lists c.args.free.now c.as_slice-2.result.now c.requires.limits.some c.requires.ascending are

pub returns-in-Ok-clause-made : goal.returns-in-Ok-clause-made
returns-in-Ok-clause-made g c =
    let found = c.args.found.now in
    let told = g.D.Disk.told c.args.disk.now in
    let free = c.args.free.now in
    let lists = c.args.lists in
    let pages = c.as_slice-2.result.now in
    let buf = c.read_page.new.buf in
    let bytes = c.in_ok-bytes.bytes in
    let old : Paging → Paging = before found.page_size found.pages in
    let are : pages ≡ supply found.pages lists free =
    c.as_slice-2.ensures.value ∙ c.in_ok-pages.ensures ∙ ap (λ (n : ℕ). free ++ numbers_from (found.pages + 1) n) c.requires.more in
    let first : c.first_of.result ≡ first_of pages = c.first_of.ensures ∙ ap first_of (c.as_slice.ensures.value ∙ sym c.as_slice-2.ensures.value) in
    let front : (paging : Paging) → buf ≡ paging 1 → change_with 1 bytes ≡ change_with 1 (front_page (found.pages + added found.pages lists free) (first_of pages) 0 (paging 1)) = λ paging is.
    ap (change_with 1)
    (c.in_ok-bytes.ensures ∙ ap (λ (n : ℕ). front_page (found.pages + n) c.first_of.result 0 buf) c.requires.more
    ∙ ap (λ (n : ℕ). front_page (found.pages + added found.pages lists free) n 0 buf) first
    ∙ ap (front_page (found.pages + added found.pages lists free) (first_of pages) 0) is) in
    let Q : Paging → Type 0 = λ paging. buf ≡ paging 1 in
    let R : Paging → Type 0 = λ paging. c.dealt_changes.new.changes.items ≡ c.push.new.self.items ++ server_changes (usable_of found) lists (old paging) pages in
    where_both told found Q R _
    (λ paging is made. server_made found.page_size (usable_of found) found.pages lists free paging (change_with 1 bytes) c.new-changes.result.items c.push.new.self.items c.dealt_changes.new.changes.items
    c.new.result pages c.new-changes.ensures.items c.in_ok-push.ensures.items are (front paging is) made c.new.ensures)
    c.in_ok-read_page.ensures.held (subst (λ (h : Option History). WhereHeld h found R) c.in_ok-read_page.ensures.same c.in-Ok.ensures.made)

pub returns-in-Ok-clause-changes : goal.returns-in-Ok-clause-changes
returns-in-Ok-clause-changes g c =
    let found = c.args.found.now in
    let are : c.as_slice-2.result.now ≡ supply found.pages c.args.lists c.args.free.now =
    c.as_slice-2.ensures.value ∙ c.in_ok-pages.ensures ∙ ap (λ (n : ℕ). c.args.free.now ++ numbers_from (found.pages + 1) n) c.requires.more in
    let sized : length c.in_ok-bytes.bytes ≡ found.page_size =
    ap length c.in_ok-bytes.ensures
    ∙ front_long (found.pages + c.args.more) c.first_of.result 0 c.read_page.new.buf (omega (arith, c.read_page.auto.buf, c.requires.size, c.requires.limits.low))
    ∙ c.read_page.auto.buf ∙ c.requires.size in
    server_are found.page_size (usable_of found) found.pages c.args.lists c.args.free.now c.as_slice-2.result.now (change_with 1 c.in_ok-bytes.bytes) c.new-changes.result.items c.push.new.self.items
    c.dealt_changes.new.changes.items c.new.result c.new-changes.ensures.items c.in_ok-push.ensures.items refl sized c.requires.limits.some c.requires.ascending are c.in-Ok.ensures.numbers c.in-Ok.ensures.sized
    c.new.ensures
