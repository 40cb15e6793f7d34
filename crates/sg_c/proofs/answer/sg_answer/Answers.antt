use Rattle.std.proofs.Common.{◌≡◌, length, ◌∙◌, sym, ap, arith}
use Rattle.std.proofs.lemmas.List.{take_all}
use Rattle.triplet_text.specs.declared.text.TheConstants.{TEXT_ROOM}
use Rattle.sg_cli.specs.Fault.{text_of}
use Rattle.sg_cli.specs.declared.fault.Fault.TheVariants.{NoMemory}
use Rattle.sg_c.specs.Texts.{told_of}
use Rattle.sg_c.proofs.answer.sg_answer.Goals as goal

pub returns-in-Err-NoMemory-clause-fault_text : goal.returns-in-Err-NoMemory-clause-fault_text
returns-in-Err-NoMemory-clause-fault_text c some text =
    let is : c.bytes.result.now ≡ text_of NoMemory = c.bytes.ensures.text ∙ c.text-told.ensures in
    let told : c.bytes.result.now ≡ told_of NoMemory = is ∙ sym (take_all TEXT_ROOM (text_of NoMemory) (omega (arith, c.bytes.ensures.short, ap length is))) in
    record {
      fault = NoMemory;
      is = sym c.status.ensures;
      answer = λ other. absurd (other c.status.ensures);
      counted = c.put_front.ensures.count ∙ ap length told;
      shown = rw told at c.put_front.ensures.shown;
    }
