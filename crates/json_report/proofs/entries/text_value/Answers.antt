use Rattle.std.proofs.Common.{◌∙◌, ap}
use Rattle.std.proofs.lemmas.Str.{IsUtf8-from_ascii}
use Rattle.serde_json.specs.Data.{string}
use Rattle.json_report.proofs.entries.text_value.Goals as goal

pub returns : goal.returns
returns c = λ ascii. c.from.ensures ∙ ap string (c.in_ok-from_utf8_lossy.ensures.ok (IsUtf8-from_ascii c.args.text.now ascii))
