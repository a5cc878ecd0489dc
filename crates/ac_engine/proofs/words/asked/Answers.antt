use Rattle.std.proofs.Common.{rules, refl, ap}
use Rattle.ac_engine.specs.Words.{texts}
use Rattle.ac_engine.proofs.WordsLemmas.{four}
use Rattle.ac_engine.proofs.words.asked.Goals as goal

pub returns-then-is : goal.returns-then-is
returns-then-is c n asks =
    let e = ap texts (four c.args.words.now _ _ _ _ c.in-len4.len_at_least c.in-len4.len_below c.command-item.is c.program-item.is c.policy-item.is c.certificate-item.is) in
    let form = asks.form in
    let same = c.if-is.ensures.0 refl in
    asks.own_name.0 (cc)

pub returns : goal.returns
returns c =
    let e = ap texts (four c.args.words.now _ _ _ _ c.in-len4.len_at_least c.in-len4.len_below c.command-item.is c.program-item.is c.policy-item.is c.certificate-item.is) in
    let certify = c.if-not-is.ensures.0 refl in
    record { form = cc; own_name = search rules }
