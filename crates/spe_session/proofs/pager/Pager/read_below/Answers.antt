use Rattle.std.proofs.Common.{◌≡◌, ◌∙◌, Option, arith, option_to_list, ap, sym, subst, length}
use Rattle.spe_store.specs.Event.{seen_in}
use Rattle.spe_store.specs.Pass.{Pass}
use Rattle.spe_model.specs.Paging.{Paging}
use Rattle.spe_session.specs.Below.{IsBelow, below_of}
use Rattle.spe_session.proofs.CauseLemmas.{never_full, read_comes, rose_more}
use Rattle.spe_session.proofs.FrontLemmas.{read_front}
use Rattle.spe_session.proofs.PageLemmas.{below_kept, gone_same, seen_kept, sized_kept}
use Rattle.spe_session.proofs.pager.Pager.read_below.Goals as goal

pub invariant_of-self-in-Ok-clause-seen : goal.invariant_of-self-in-Ok-clause-seen
invariant_of-self-in-Ok-clause-seen g c =
    let s = c.args.self.now in
    let copied : c.filled.result ≡ c.read_once.new.buf = c.filled.ensures in
    seen_kept c.args.page _ _ c.read_once.new.buf s.clean c.put.new.self c.set.new.self (seen_in s.pass.done s.pass.id) _ s.seen c.in_ok-put.ensures.ok c.set.ensures copied c.in-Ok.ensures.read

pub invariant_of-self-in-Ok-clause-below : goal.invariant_of-self-in-Ok-clause-below
invariant_of-self-in-Ok-clause-below g c =
    let s = c.args.self.now in
    below_kept (below_of g.N.Opening.opened s.store) _ c.args.page c.read_once.new.buf (seen_in s.pass.done s.pass.id) _ s.below c.in-Ok.ensures.gives c.in-Ok.ensures.read c.in-Ok.ensures.below.told

pub invariant_of-self-in-Ok-clause-clean_sized : goal.invariant_of-self-in-Ok-clause-clean_sized
invariant_of-self-in-Ok-clause-clean_sized g c =
    let s = c.args.self.now in
    let copied : c.filled.result ≡ c.read_once.new.buf = c.filled.ensures in
    let long : length c.filled.result ≡ s.size = ap length copied ∙ c.in-Ok.ensures.len ∙ c.requires.size in
    sized_kept s.size c.args.page _ _ s.clean c.put.new.self c.set.new.self s.clean_sized c.in_ok-put.ensures.ok c.set.ensures long

pub invariant_of-self-in-Ok-clause-fronted : goal.invariant_of-self-in-Ok-clause-fronted
invariant_of-self-in-Ok-clause-fronted g c =
    let s = c.args.self.now in
    read_front c.args.page _ _ s.dirty s.clean _ c.set.new.self s.fronted c.requires.fresh c.in_ok-put.ensures.ok c.set.ensures

pub invariant_of-self-in-Err-clause-fronted : goal.invariant_of-self-in-Err-clause-fronted
invariant_of-self-in-Err-clause-fronted g c =
    let s = c.args.self.now in
    read_front c.args.page _ _ s.dirty s.clean _ c.remove.new.self s.fronted c.requires.fresh c.in_ok-put.ensures.ok c.remove.ensures

pub invariant_of-self-in-Err-clause-seen : goal.invariant_of-self-in-Err-clause-seen
invariant_of-self-in-Err-clause-seen g c = λ n.
    let s = c.args.self.now in
    ap (λ (p : Pass). seen_in p.done p.id n) c.in-Err.ensures.err ∙ s.seen n ∙ sym (ap option_to_list (gone_same c.args.page _ s.clean _ c.remove.new.self c.requires.fresh c.in_ok-put.ensures.ok c.remove.ensures n))

pub invariant_of-self-in-Err-clause-below : goal.invariant_of-self-in-Err-clause-below
invariant_of-self-in-Err-clause-below g c =
    let s = c.args.self.now in
    subst (λ (o : Option Paging). IsBelow o (seen_in c.read_once.new.pass.done c.read_once.new.pass.id)) (sym c.in-Err.ensures.below.told)
    (subst (λ (p : Pass). IsBelow (below_of g.N.Opening.opened s.store) (seen_in p.done p.id)) (sym c.in-Err.ensures.err) s.below)

pub invariant_of-self-in-Err-clause-clean_sized : goal.invariant_of-self-in-Err-clause-clean_sized
invariant_of-self-in-Err-clause-clean_sized g c = λ n bytes there.
    let s = c.args.self.now in
    s.clean_sized n bytes (sym (gone_same c.args.page _ s.clean _ c.remove.new.self c.requires.fresh c.in_ok-put.ensures.ok c.remove.ensures n) ∙ there)

pub refuse-requires-clause-caused : goal.refuse-requires-clause-caused
refuse-requires-clause-caused g c =
    let s = c.args.self.now in
    read_comes g.K.Beginning.begun.reads s.store.desk.reads c.read_once.new.store.desk.reads s.later c.in-Err.ensures.cause c.in-Err.fault

pub refuse-requires-clause-filled : goal.refuse-requires-clause-filled
refuse-requires-clause-filled g c = never_full c.args.self.now.size c.in-Err.fault c.in-Err.ensures.fault

pub invariant_of-self-in-Err-clause-later : goal.invariant_of-self-in-Err-clause-later
invariant_of-self-in-Err-clause-later g c = omega (arith, c.args.self.now.later, c.read_once.ensures.later)

pub invariant_of-self-in-Err-clause-caused : goal.invariant_of-self-in-Err-clause-caused
invariant_of-self-in-Err-clause-caused g c = λ is.
    let s = c.args.self.now in
    rose_more g.K.Beginning.begun.reads s.store.desk.reads c.read_once.new.store.desk.reads c.read_once.ensures.later (s.caused is)

pub invariant_of-self-in-Ok-clause-later : goal.invariant_of-self-in-Ok-clause-later
invariant_of-self-in-Ok-clause-later g c = omega (arith, c.args.self.now.later, c.read_once.ensures.later)

pub invariant_of-self-in-Ok-clause-caused : goal.invariant_of-self-in-Ok-clause-caused
invariant_of-self-in-Ok-clause-caused g c = λ is.
    let s = c.args.self.now in
    rose_more g.K.Beginning.begun.reads s.store.desk.reads c.read_once.new.store.desk.reads c.read_once.ensures.later (s.caused is)
