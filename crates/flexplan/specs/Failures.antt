-- Which failure an error of the outside is.
use Rattle.flex_io.specs.declared.error.LoadError.{LoadError}
use Rattle.flex_io.specs.declared.error.LoadError.TheVariants as load
use Rattle.flex_io.specs.declared.error.PutError.{PutError}
use Rattle.flex_io.specs.declared.error.PutError.TheVariants as put
use Rattle.flexplan.specs.declared.status.Failure.{Failure}
use Rattle.flexplan.specs.declared.status.Failure.TheVariants.{ReadFault, WriteFault, NoMemory}

abbrev pub failure_of_load : LoadError → Failure
failure_of_load load.ReadFault = ReadFault
failure_of_load load.NoMemory = NoMemory

abbrev pub failure_of_put : PutError → Failure
failure_of_put put.Failed = WriteFault
failure_of_put put.NoMemory = NoMemory
