use Rattle.std.proofs.Common.{◌≡◌, ◌∙◌, rules, ap, ap₂, true}
use Rattle.std.proofs.lemmas.Result.{IfOk-weaker}
use Rattle.clap.specs.Simple.{App, app_of, app_of_fields, on_top, with_rule}
use Rattle.clap.specs.Walk.{rule_of}
use Rattle.command_line.specs.Line.{bare_app, command_rule}
use Rattle.command_line.proofs.line.command_line.Goals as goal

-- the settings of the command line, one after another
abbrev nameless : App → App
nameless = on_top (λ shape. record shape { no_binary_name = true })

abbrev without_help : App → App
without_help = on_top (λ shape. record shape { disable_help_flag = true })

abbrev without_version : App → App
without_version = on_top (λ shape. record shape { disable_version_flag = true })

pub returns : goal.returns
returns c =
    let command_is : rule_of c.action-command.result ≡ command_rule = search rules in
    let bare_is : app_of c.disable_version_flag.result ≡ bare_app = ap app_of_fields c.disable_version_flag.ensures
    ∙ ap without_version (ap app_of_fields c.disable_help_flag.ensures
    ∙ ap without_help (ap app_of_fields c.no_binary_name.ensures ∙ ap nameless c.new-2.ensures.app)) in
    let with_command = c.in_ok-arg.ensures.shape (search rules) ∙ ap₂ with_rule bare_is command_is in
    let with_workers = c.in_ok-arg-2.ensures.shape c.argument.ensures.local ∙ ap₂ with_rule with_command c.argument.ensures.rule in
    let with_budget = c.in_ok-arg-3.ensures.shape c.argument-2.ensures.local ∙ ap₂ with_rule with_workers c.argument-2.ensures.rule in
    let with_cut = c.in_ok-arg-4.ensures.shape c.argument-3.ensures.local ∙ ap₂ with_rule with_budget c.argument-3.ensures.rule in
    let with_seed = c.in_ok-arg-5.ensures.shape c.argument-4.ensures.local ∙ ap₂ with_rule with_cut c.argument-4.ensures.rule in
    IfOk-weaker c.arg-6.result _ _ (λ line added. added.shape c.argument-5.ensures.local ∙ ap₂ with_rule with_seed c.argument-5.ensures.rule) c.arg-6.ensures
