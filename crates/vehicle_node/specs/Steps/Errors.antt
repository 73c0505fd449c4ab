-- What becomes of the errors of a store.
use Rattle.block_store.specs.declared.OpenError.{OpenError}
use Rattle.block_store.specs.declared.OpenError.TheVariants as open_error
use Rattle.vehicle_node.specs.declared.NodeError.{NodeError}
use Rattle.vehicle_node.specs.declared.NodeError.TheVariants as node_error

-- why a node isn't opened whose store isn't opened
abbrev pub opens_not : OpenError → NodeError
opens_not open_error.Memory = node_error.Memory
opens_not (open_error.Fault kind) = node_error.Fault kind
opens_not (open_error.Foreign region offset word) = node_error.Foreign region offset word
opens_not (open_error.Worn count) = node_error.Worn count
