use Rattle.message_codec_defs.specs.Codecs.{profile_codec}
use Rattle.command_run.specs.Run.{setting_of}
use Rattle.scenario_cli.proofs.Joined.{runs, generates_at, few, generate_is_none, checks_at, prints_at, runs_bearer, timed, runs_legs, fitting, reports, converts, named, not_values, verifies_at, run_is_none, check_is_none, profile_is_none, um_is_none, dup_is_none, verify_is_none, other_is_none}
use Rattle.scenario_cli.proofs.top.gnb.Goals as goal

pub returns-in-Run : goal.returns-in-Run
returns-in-Run g c =
    let h = runs (setting_of profile_codec g.U.Units.answer) _ _ _ c.form_of.ensures.exact c.in-Run.is c.run_over.ensures in
    let no = not_values _ _ _ c.form_of.ensures.exact c.in-Run.is run_is_none in
    record { headline = h.headline; read = h.read; write = h.write; calls = h.calls; near = h.near; complete = h.complete; near_step = h.near_step; generates = h.generates; bearer = h.bearer; near_event = h.near_event; legs = h.legs; near_leg_event = h.near_leg_event; checks = h.checks; verifies = h.verifies; near_verdict = h.near_verdict; writes = h.writes; values = λ way e. absurd (no way e); near_value = λ way e. absurd (no way e); answers = λ way e. absurd (no way e) }

pub generate_over-requires : goal.generate_over-requires
generate_over-requires g c = few _ c.in-Generate.packets c.in-Generate.is c.form_of.ensures.timed

pub returns-in-Generate : goal.returns-in-Generate
returns-in-Generate g c =
    let h = generates_at (setting_of profile_codec g.U.Units.answer) _ _ _ _ c.form_of.ensures.exact c.in-Generate.is c.generate_over.ensures.meets c.generate_over.ensures.complete in
    let no = not_values _ _ _ c.form_of.ensures.exact c.in-Generate.is (generate_is_none _) in
    record { headline = h.headline; read = h.read; write = h.write; calls = h.calls; near = h.near; complete = h.complete; near_step = h.near_step; generates = h.generates; bearer = h.bearer; near_event = h.near_event; legs = h.legs; near_leg_event = h.near_leg_event; checks = h.checks; verifies = h.verifies; near_verdict = h.near_verdict; writes = h.writes; values = λ way e. absurd (no way e); near_value = λ way e. absurd (no way e); answers = λ way e. absurd (no way e) }

pub returns-in-Check : goal.returns-in-Check
returns-in-Check g c =
    let h = checks_at (setting_of profile_codec g.U.Units.answer) _ _ _ _ c.form_of.ensures.exact c.in-Check.is c.status.ensures c.check_input.ensures.meets c.check_input.ensures.near c.check_input.ensures.complete in
    let no = not_values _ _ _ c.form_of.ensures.exact c.in-Check.is check_is_none in
    record { headline = h.headline; read = h.read; write = h.write; calls = h.calls; near = h.near; complete = h.complete; near_step = h.near_step; generates = h.generates; bearer = h.bearer; near_event = h.near_event; legs = h.legs; near_leg_event = h.near_leg_event; checks = h.checks; verifies = h.verifies; near_verdict = h.near_verdict; writes = h.writes; values = λ way e. absurd (no way e); near_value = λ way e. absurd (no way e); answers = λ way e. absurd (no way e) }

pub returns-in-Profile : goal.returns-in-Profile
returns-in-Profile g c =
    let h = prints_at (setting_of profile_codec g.U.Units.answer) _ _ _ _ c.form_of.ensures.exact c.in-Profile.is c.write_profile.ensures.meets c.write_profile.ensures.complete in
    let no = not_values _ _ _ c.form_of.ensures.exact c.in-Profile.is (profile_is_none _) in
    record { headline = h.headline; read = h.read; write = h.write; calls = h.calls; near = h.near; complete = h.complete; near_step = h.near_step; generates = h.generates; bearer = h.bearer; near_event = h.near_event; legs = h.legs; near_leg_event = h.near_leg_event; checks = h.checks; verifies = h.verifies; near_verdict = h.near_verdict; writes = h.writes; values = λ way e. absurd (no way e); near_value = λ way e. absurd (no way e); answers = λ way e. absurd (no way e) }

pub run_um-requires-clause-least : goal.run_um-requires-clause-least
run_um-requires-clause-least g c = (timed _ c.in-Um.config c.in-Um.is c.form_of.ensures.timed).0

pub run_um-requires-clause-most : goal.run_um-requires-clause-most
run_um-requires-clause-most g c = (timed _ c.in-Um.config c.in-Um.is c.form_of.ensures.timed).1

pub returns-in-Um : goal.returns-in-Um
returns-in-Um g c =
    let h = runs_bearer (setting_of profile_codec g.U.Units.answer) _ _ _ _ _ c.form_of.ensures.exact c.in-Um.is c.status-in-Um.ensures c.run_um.ensures.meets c.run_um.ensures.near c.run_um.ensures.complete in
    let no = not_values _ _ _ c.form_of.ensures.exact c.in-Um.is (um_is_none _) in
    record { headline = h.headline; read = h.read; write = h.write; calls = h.calls; near = h.near; complete = h.complete; near_step = h.near_step; generates = h.generates; bearer = h.bearer; near_event = h.near_event; legs = h.legs; near_leg_event = h.near_leg_event; checks = h.checks; verifies = h.verifies; near_verdict = h.near_verdict; writes = h.writes; values = λ way e. absurd (no way e); near_value = λ way e. absurd (no way e); answers = λ way e. absurd (no way e) }

pub run_duplicate-requires-clause-least : goal.run_duplicate-requires-clause-least
run_duplicate-requires-clause-least g c = (fitting _ c.in-Dup.config c.in-Dup.is c.form_of.ensures.timed).0

pub run_duplicate-requires-clause-most : goal.run_duplicate-requires-clause-most
run_duplicate-requires-clause-most g c = (fitting _ c.in-Dup.config c.in-Dup.is c.form_of.ensures.timed).1

pub returns-in-Dup : goal.returns-in-Dup
returns-in-Dup g c =
    let h = runs_legs (setting_of profile_codec g.U.Units.answer) _ _ _ _ _ c.form_of.ensures.exact c.in-Dup.is c.status-in-Dup.ensures c.run_duplicate.ensures.meets c.run_duplicate.ensures.near c.run_duplicate.ensures.complete in
    let no = not_values _ _ _ c.form_of.ensures.exact c.in-Dup.is (dup_is_none _) in
    record { headline = h.headline; read = h.read; write = h.write; calls = h.calls; near = h.near; complete = h.complete; near_step = h.near_step; generates = h.generates; bearer = h.bearer; near_event = h.near_event; legs = h.legs; near_leg_event = h.near_leg_event; checks = h.checks; verifies = h.verifies; near_verdict = h.near_verdict; writes = h.writes; values = λ way e. absurd (no way e); near_value = λ way e. absurd (no way e); answers = λ way e. absurd (no way e) }

pub returns-in-Values : goal.returns-in-Values
returns-in-Values g c =
    let h = converts (setting_of profile_codec g.U.Units.answer) _ _ _ _ _ _ c.form_of.ensures.exact c.in-Values.is c.status-in-Values.ensures c.run_values.ensures.meets c.run_values.ensures.near c.run_values.ensures.complete in
    let v = named _ _ _ _ _ _ _ c.type_name.ensures c.form_of.ensures.exact c.in-Values.is c.status-in-Values.ensures c.run_values.ensures.meets c.run_values.ensures.near c.run_values.ensures.complete in
    record { headline = h.headline; read = h.read; write = h.write; calls = h.calls; near = h.near; complete = h.complete; near_step = h.near_step; generates = h.generates; bearer = h.bearer; near_event = h.near_event; legs = h.legs; near_leg_event = h.near_leg_event; checks = h.checks; verifies = h.verifies; near_verdict = h.near_verdict; writes = h.writes; values = λ way e. (v way e).meets; near_value = λ way e. (v way e).near; answers = λ way e. (v way e).wholly }

pub returns-in-Verify : goal.returns-in-Verify
returns-in-Verify g c =
    let h = verifies_at (setting_of profile_codec g.U.Units.answer) _ _ _ c.form_of.ensures.exact c.in-Verify.is c.verify_text.ensures in
    let no = not_values _ _ _ c.form_of.ensures.exact c.in-Verify.is verify_is_none in
    record { headline = h.headline; read = h.read; write = h.write; calls = h.calls; near = h.near; complete = h.complete; near_step = h.near_step; generates = h.generates; bearer = h.bearer; near_event = h.near_event; legs = h.legs; near_leg_event = h.near_leg_event; checks = h.checks; verifies = h.verifies; near_verdict = h.near_verdict; writes = h.writes; values = λ way e. absurd (no way e); near_value = λ way e. absurd (no way e); answers = λ way e. absurd (no way e) }

pub returns-in-Other : goal.returns-in-Other
returns-in-Other g c =
    let h = reports (setting_of profile_codec g.U.Units.answer) _ _ _ c.form_of.ensures.exact c.in-Other.is c.report_usage.ensures in
    let no = not_values _ _ _ c.form_of.ensures.exact c.in-Other.is other_is_none in
    record { headline = h.headline; read = h.read; write = h.write; calls = h.calls; near = h.near; complete = h.complete; near_step = h.near_step; generates = h.generates; bearer = h.bearer; near_event = h.near_event; legs = h.legs; near_leg_event = h.near_leg_event; checks = h.checks; verifies = h.verifies; near_verdict = h.near_verdict; writes = h.writes; values = λ way e. absurd (no way e); near_value = λ way e. absurd (no way e); answers = λ way e. absurd (no way e) }
