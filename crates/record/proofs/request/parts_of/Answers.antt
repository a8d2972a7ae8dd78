use Rattle.std.proofs.Common.{sym}
use Rattle.definitions.specs.Requests.{request_layout}
use Rattle.definitions.proofs.Fields.{offset-first}
use Rattle.record.proofs.request.parts_of.Goals as goal

pub take-requires-clause-start : goal.take-requires-clause-start
take-requires-clause-start c = sym (offset-first request_layout c.args.bytes.now c.args.map)
