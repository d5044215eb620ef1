-- What the faults of the code tell, in the words of the definitions: a broken rule, or none where memory was wanting.
use Rattle.std.specs.Prelude.{Option, Some, None}
use Rattle.ghost_model.specs.refusals.LoadFaults as faults
use Rattle.csv_split.specs.declared.faults.Place.{Place}
use Rattle.csv_split.specs.declared.faults.LoadFault.{LoadFault}
use Rattle.csv_split.specs.declared.faults.LoadFault.TheVariants as fault

abbrev pub place_of : Place → faults.Place
place_of at = record { table = at.table; rec = at.rec; column = at.column }

-- the broken rule that a fault tells of
abbrev pub told : LoadFault → Option faults.LoadFault
told fault.NoMemory = None
told (fault.FileLimit at) = Some (faults.FileLimit (place_of at))
told (fault.Header at) = Some (faults.Header (place_of at))
told (fault.RowLimit at) = Some (faults.RowLimit (place_of at))
told (fault.FieldCount at) = Some (faults.FieldCount (place_of at))
told (fault.BadId at) = Some (faults.BadId (place_of at))
told (fault.BadInt at) = Some (faults.BadInt (place_of at))
told (fault.BadChars at) = Some (faults.BadChars (place_of at))
told (fault.BadReference at) = Some (faults.BadReference (place_of at))
