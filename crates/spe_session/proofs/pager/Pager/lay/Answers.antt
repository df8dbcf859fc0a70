use Rattle.std.proofs.Common.{rules, ◌≡◌, ◌∙◌, List, ℕ, Result, Ok, Err, OnOk, OnErr, Some, ap, arith, length, subst, sym, true}
use Rattle.spe_session.specs.Pages.{AreSized, AreUpTo, HasFrontOf, Sets, are_numbered, front_read, front_shown}
use Rattle.spe_session.proofs.FrontLemmas.{put_numbered, put_one}
use Rattle.spe_session.proofs.PageLemmas.{placed_put, sized_put}
use Rattle.spe_session.proofs.pager.Pager.lay.Goals as goal

by_put : {X E : Type 0} (P : List (ℕ × List ℕ) → Type 0) (result : Result X E) (page : ℕ) (bytes : List ℕ) (old new : List (ℕ × List ℕ)) → OnOk result (Sets page (Some bytes) old new) → OnErr result (new ≡ old)
    → P old → (Sets page (Some bytes) old new → P new) → P new
by_put P (Ok x) page bytes old new ok err was put = put ok
by_put P (Err e) page bytes old new ok err was put = subst P (sym err) was

pub invariant_of-self-clause-fronted : goal.invariant_of-self-clause-fronted
invariant_of-self-clause-fronted g c =
    let s = c.args.self.now in
    let is : c.new.result ≡ c.args.bytes.now = search rules in
    by_put (λ (d : List (ℕ × List ℕ)). front_shown d s.clean ≡ front_read s.clean) c.put.result c.args.page c.new.result s.dirty c.put.new.self c.put.ensures.ok c.put.ensures.err s.fronted
    (λ sets. put_one c.args.page c.new.result s.dirty c.put.new.self s.clean s.fronted sets (λ e. subst (HasFrontOf s.clean) (sym is) (c.requires.front e)))

pub invariant_of-self-clause-numbered : goal.invariant_of-self-clause-numbered
invariant_of-self-clause-numbered g c =
    let s = c.args.self.now in
    by_put (λ (d : List (ℕ × List ℕ)). are_numbered s.store.count s.pages d ≡ true) c.put.result c.args.page c.new.result s.dirty c.put.new.self c.put.ensures.ok c.put.ensures.err s.numbered
    (λ sets. put_numbered s.store.count s.pages c.args.page c.new.result s.dirty c.put.new.self s.numbered sets c.requires.inside.0)

pub invariant_of-self-clause-dirty_sized : goal.invariant_of-self-clause-dirty_sized
invariant_of-self-clause-dirty_sized g c =
    let s = c.args.self.now in
    let is : c.new.result ≡ c.args.bytes.now = search rules in
    by_put (AreSized s.size) c.put.result c.args.page c.new.result s.dirty c.put.new.self c.put.ensures.ok c.put.ensures.err s.dirty_sized
    (λ sets. sized_put s.size c.args.page c.new.result s.dirty c.put.new.self s.dirty_sized sets (ap length is ∙ c.requires.size))

pub invariant_of-self-clause-placed : goal.invariant_of-self-clause-placed
invariant_of-self-clause-placed g c =
    let s = c.args.self.now in
    by_put (AreUpTo s.pages) c.put.result c.args.page c.new.result s.dirty c.put.new.self c.put.ensures.ok c.put.ensures.err s.placed
    (λ sets. placed_put s.pages s.pages c.args.page c.new.result s.dirty c.put.new.self s.placed sets c.requires.inside.1 (omega arith))
