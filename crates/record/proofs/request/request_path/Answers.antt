use Rattle.std.proofs.Common.{sym}
use Rattle.definitions.specs.Requests.{request_layout}
use Rattle.definitions.proofs.Fields.{offset-first}
use Rattle.record.proofs.request.request_path.Goals as goal

pub take-number-requires-clause-start : goal.take-number-requires-clause-start
take-number-requires-clause-start c = sym (offset-first request_layout c.args.bytes.now c.map_of-map.result)
