-- An operation that is given to the code, as the rules speak of it.
use Rattle.message.specs.declared.operation.Operation.{Operation as Lent}
use Rattle.message_rules.specs.Operation.{Operation, operation}

abbrev pub given : Lent → Operation
given o = operation o.sequence o.source.sender o.source.aid o.bytes.now
