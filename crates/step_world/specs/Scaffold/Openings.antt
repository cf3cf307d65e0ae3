-- How the processes of partitions begin.
use Rattle.std.specs.Prelude.{◌≡◌, List, []}
use Rattle.std.specs.List.{AllZip}
use Rattle.partition_core.specs.Kept.{Kept, opened_with}
use Rattle.partition_state.specs.State.{State}
use Rattle.step_world.specs.declared.processes.DiskProcess.{DiskProcess}

-- the process of a partition, with nothing in its mail
abbrev pub new_process : Kept → DiskProcess
new_process k = record { partition = k; mail = [] }

-- the process of a partition that opens so
abbrev pub is_opened : State → DiskProcess → Type 0
is_opened p d = d ≡ new_process (opened_with p)

abbrev pub AreOpened : List State → List DiskProcess → Type 0
AreOpened states processes = AllZip is_opened states processes
