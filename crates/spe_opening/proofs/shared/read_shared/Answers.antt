use Rattle.spe_opening.specs.declared.shared.Shared.{Shared}
use Rattle.spe_opening.proofs.SharedLemmas.{catalog_asked, catalog_failed, node_asked, node_failed, tables_asked, tables_failed, tables_filled, tables_same}
use Rattle.spe_opening.proofs.shared.read_shared.Goals as goal

pub returns-in-Err-clause-found : goal.returns-in-Err-clause-found
returns-in-Err-clause-found g c = catalog_failed g.S.Pages c.args.space.now c.read_catalog.new.space c.args.node c.in-Err.fault c.in-Err.ensures.found

pub returns-in-Err-clause-asks : goal.returns-in-Err-clause-asks
returns-in-Err-clause-asks g c = catalog_asked Shared g.S.Pages c.args.space.now c.read_catalog.new.space c.args.node c.in-Err.fault c.in-Err.ensures.inside

pub returns-in-Err-read_node-clause-found : goal.returns-in-Err-read_node-clause-found
returns-in-Err-read_node-clause-found g c =
    node_failed g.S.Pages c.args.space.now c.read_catalog.new.space c.read_node.new.space c.args.node c.in-Err-read_node.fault c.in-Ok.ensures.kept c.in-Err-read_node.ensures.found

pub returns-in-Err-read_node-clause-asks : goal.returns-in-Err-read_node-clause-asks
returns-in-Err-read_node-clause-asks g c = node_asked Shared g.S.Pages c.args.space.now c.read_node.new.space c.args.node c.in-Err-read_node.fault c.in-Err-read_node.ensures.page_out

pub returns-in-Err-test_entries-clause-found : goal.returns-in-Err-test_entries-clause-found
returns-in-Err-test_entries-clause-found g c =
    tables_failed g.S.Pages c.args.space.now c.read_catalog.new.space c.read_node.new.space c.test_entries.new.space c.args.node c.in-Ok.catalog c.in-Ok-read_node.trunks c.in-Err-test_entries.fault
    (record { first = c.in-Ok.ensures.kept; second = c.in-Ok-read_node.ensures.kept; finds = c.in-Ok.ensures.found; reads = c.in-Ok-read_node.ensures.found })
    c.in-Err-test_entries.ensures.kept (tables_same g.S.Pages c.read_node.new.space c.test_entries.new.space c.as_slice.result.now c.in-Ok.catalog c.in-Err-test_entries.fault c.as_slice.ensures c.in-Err-test_entries.ensures.tests)

pub returns-in-Err-test_entries-clause-asks : goal.returns-in-Err-test_entries-clause-asks
returns-in-Err-test_entries-clause-asks g c =
    tables_asked Shared g.S.Pages c.args.space.now c.read_catalog.new.space c.read_node.new.space c.test_entries.new.space c.args.node c.in-Ok.catalog c.in-Ok-read_node.trunks c.in-Err-test_entries.fault
    (record { first = c.in-Ok.ensures.kept; second = c.in-Ok-read_node.ensures.kept; finds = c.in-Ok.ensures.found; reads = c.in-Ok-read_node.ensures.found })
    c.in-Err-test_entries.ensures.kept (tables_same g.S.Pages c.read_node.new.space c.test_entries.new.space c.as_slice.result.now c.in-Ok.catalog c.in-Err-test_entries.fault c.as_slice.ensures c.in-Err-test_entries.ensures.tests)

pub returns-in-Ok-test_entries-clause-found : goal.returns-in-Ok-test_entries-clause-found
returns-in-Ok-test_entries-clause-found g c =
    tables_filled g.S.Pages c.args.space.now c.read_catalog.new.space c.read_node.new.space c.test_entries.new.space c.args.node (record { catalog = c.in-Ok.catalog; trunks = c.in-Ok-read_node.trunks })
    (record { first = c.in-Ok.ensures.kept; second = c.in-Ok-read_node.ensures.kept; finds = c.in-Ok.ensures.found; reads = c.in-Ok-read_node.ensures.found })
    c.in-Ok-test_entries.ensures.kept (rw c.as_slice.ensures at c.in-Ok-test_entries.ensures.tests)
