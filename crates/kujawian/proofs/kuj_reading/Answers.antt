-- `kuj_reading` meets its contract: a refused reading writes *beside alone. Assumes nothing.
use Rattle.kujawian.proofs.Fields.{field-shown, field-refused}
use Rattle.kujawian.proofs.kuj_reading.Goals as goal

pub returns-in-Ok : goal.returns-in-Ok
returns-in-Ok c =
    field-shown _ _ _ c.of.ensures _ _ _ _ c.reading-field.ensures _ _ _ c.in-Ok.reading c.in-Ok.is
    c.give.ensures _ _ c.kind_of.ensures c.bits_of.ensures

pub returns-in-Err : goal.returns-in-Err
returns-in-Err c =
    field-refused _ _ _ c.of.ensures _ _ _ _ c.reading-field.ensures _ _ _ c.in-Err.refusal c.in-Err.is c.give-in-Err.ensures
