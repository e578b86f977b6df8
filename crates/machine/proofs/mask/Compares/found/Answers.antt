-- `found` meets its contract: what the relation's bits <1:0> find, or the opposite. Assumes nothing.
use Rattle.machine.proofs.Compares.{opposite_found, opposite_refused}
use Rattle.machine.proofs.mask.Compares.found.Goals as goal

pub returns : goal.returns
returns g c =
    let a = c.args in
    let i = a.self.instruction in
    let l = a.elements.now in
    let e = c.by_work.ensures in
    let o = c.opposed.ensures in
    record {
      found = opposite_found a.relation i.work c.requires.0 i.scalar i a.self.scalar l a.n _ _ _ e.found e.refused c.requires.3 o.found;
      refused = rw o.refused (opposite_refused a.relation i.work c.requires.0 i.scalar i a.self.scalar l a.n _ e.refused);
    }
