-- Why a desk does not begin.
-- Assumes nothing.
use Rattle.parts.specs.declared.lent.PartsError.{PartsError}
use Rattle.parts.specs.declared.lent.PartsError.TheVariants as parts
use Rattle.desk_side.specs.declared.output.BeginError.{BeginError}
use Rattle.desk_side.specs.declared.output.BeginError.TheVariants.{LentTooLittle, NoMemory}

-- where there are no parts
abbrev pub no_parts : PartsError → BeginError
no_parts parts.TooSmall = LentTooLittle
no_parts parts.NoMemory = NoMemory
