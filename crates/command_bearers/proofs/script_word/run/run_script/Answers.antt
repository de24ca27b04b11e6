use Rattle.command_bearers.proofs.script_word.Finished.{meets as script_meets}
use Rattle.command_bearers.proofs.script_word.Whole.{complete as script_complete, near as script_near}
use Rattle.command_bearers.proofs.script_word.run.run_script.Goals as goal

pub returns : goal.returns
returns g c =
    let m = g.W.ScriptWord.meaning c.args.word.now in
    let meets = script_meets {m = m} _ _ c.run_lines-end.ensures c.finish.ensures in
    record {
      meets = meets;
      near = script_near m _ _ _ meets;
      complete = script_complete m _ _ (g.met.W.ScriptWord.lawful c.args.word.now) _ meets;
    }
