-- The answers of calls as replies of a log.
use Rattle.chain_core.specs.Replies.{LogReply, found, missing, described}
use Rattle.shared_log.specs.declared.replies.Fetched.{Fetched}
use Rattle.shared_log.specs.declared.replies.Fetched.TheVariants.{Found, Missing}
use Rattle.log_base.specs.declared.log_info.LogInfo.{LogInfo}

abbrev pub reply_fetched : Fetched → LogReply
reply_fetched (Found patch) = found patch
reply_fetched (Missing version) = missing version

abbrev pub reply_described : LogInfo → LogReply
reply_described info = described info.version info.head
