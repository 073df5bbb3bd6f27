use Rattle.st_linear.specs.declared.faults.LinFault.{LinFault}
use Rattle.st_linear.specs.declared.faults.LinFault.TheVariants.{TooLarge, Memory}
use Rattle.row_elimination.specs.declared.halt.Halt.{Halt}
use Rattle.row_elimination.specs.declared.halt.Halt.TheVariants as halt

abbrev pub halt_of : LinFault → Halt
halt_of TooLarge = halt.Wide
halt_of Memory = halt.Memory
