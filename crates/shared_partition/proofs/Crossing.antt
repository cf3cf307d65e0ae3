-- A partition whose keys can be spelled may go to another thread, as one that is shared does.
use denote.Param.Send.{IsSend, sendable}
use Rattle.partition_core.proofs.Crossing.{partition_send}
use Rattle.shared_partition.specs.contracts.spelled.SpelledPartition as SpelledPartition

pub spelled_send : IsSend SpelledPartition.the_row
spelled_send = search (partition_send, sendable) depth 10
