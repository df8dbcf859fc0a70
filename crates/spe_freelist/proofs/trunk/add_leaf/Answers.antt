use Rattle.std.proofs.Common.{◌∙◌, ◌+◌, ◌*◌, List, ℕ, ap, drop, arith}
use Rattle.spe_model.specs.Big.{u32_at}
use Rattle.spe_freelist.proofs.TrunkLemmas.{drop-with_u32, leaf_added, u32_at-before}
use Rattle.spe_freelist.proofs.trunk.add_leaf.Goals as goal

pub returns-clause-leaves : goal.returns-clause-leaves
returns-clause-leaves c =
    leaf_added c.args.usable c.args.count c.args.leaf c.args.page.now c.put_u32.new.bytes c.requires.room c.requires.within c.put_u32.ensures.small c.put_u32.ensures.bytes

pub returns-clause-next : goal.returns-clause-next
returns-clause-next c =
    ap (λ (xs : List ℕ). u32_at xs 0) c.put_u32.ensures.bytes ∙ u32_at-before 0 (8 + 4 * c.args.count) c.args.leaf c.args.page.now (omega arith) (omega arith)

pub returns-clause-reserved : goal.returns-clause-reserved
returns-clause-reserved c =
    ap (drop c.args.usable) c.put_u32.ensures.bytes ∙ drop-with_u32 c.args.usable (8 + 4 * c.args.count) c.args.leaf c.args.page.now (omega arith) (omega arith)
