-- The reply is fed for the command that the line asks for.
use Rattle.std.proofs.lemmas.Result.{IfOk-weaker, IfErr-weaker}
use Rattle.vcd_amend_run.proofs.planned_lines.DecodedCommands.{decodes, stops_decoding}
use Rattle.vcd_amend_run.proofs.planned_lines.decoding.stream_command.Goals as goal

pub returns-in-Uart-clause-decoded : goal.returns-in-Uart-clause-decoded
returns-in-Uart-clause-decoded g c =
    rw c.in-Uart.is
    (IfOk-weaker c.stream_reply.result _ _
    (decodes _ _ (g.O.Reopen.whole c.args.again.now) c.args.line.now c.args.end _ c.uart_reply-reply.result
    (c.uart_reply-reply.ensures c.in-Uart.signal) (g.P.Sink.taken c.args.replies.now)
    (g.P.Sink.taken c.stream_reply.new.replies))
    c.stream_reply.ensures.streamed)

pub returns-in-Uart-clause-stops : goal.returns-in-Uart-clause-stops
returns-in-Uart-clause-stops g c =
    rw c.in-Uart.is
    (IfErr-weaker c.stream_reply.result _ _
    (stops_decoding _ _ (g.O.Reopen.whole c.args.again.now) c.args.line.now c.args.end _ c.uart_reply-reply.result
    (c.uart_reply-reply.ensures c.in-Uart.signal) (g.P.Sink.taken c.args.replies.now)
    (g.P.Sink.taken c.stream_reply.new.replies) _ _)
    c.stream_reply.ensures.stops)

pub returns-in-Spi-clause-decoded : goal.returns-in-Spi-clause-decoded
returns-in-Spi-clause-decoded g c =
    rw c.in-Spi.is
    (IfOk-weaker c.stream_reply-in-Spi.result _ _
    (decodes _ _ (g.O.Reopen.whole c.args.again.now) c.args.line.now c.args.end _ c.spi_reply-reply.result
    (c.spi_reply-reply.ensures c.args.end) (g.P.Sink.taken c.args.replies.now)
    (g.P.Sink.taken c.stream_reply-in-Spi.new.replies))
    c.stream_reply-in-Spi.ensures.streamed)

pub returns-in-Spi-clause-stops : goal.returns-in-Spi-clause-stops
returns-in-Spi-clause-stops g c =
    rw c.in-Spi.is
    (IfErr-weaker c.stream_reply-in-Spi.result _ _
    (stops_decoding _ _ (g.O.Reopen.whole c.args.again.now) c.args.line.now c.args.end _ c.spi_reply-reply.result
    (c.spi_reply-reply.ensures c.args.end) (g.P.Sink.taken c.args.replies.now)
    (g.P.Sink.taken c.stream_reply-in-Spi.new.replies) _ _)
    c.stream_reply-in-Spi.ensures.stops)

pub returns-in-I2c-clause-decoded : goal.returns-in-I2c-clause-decoded
returns-in-I2c-clause-decoded g c =
    rw c.in-I2c.is
    (IfOk-weaker c.stream_reply-in-I2c.result _ _
    (decodes _ _ (g.O.Reopen.whole c.args.again.now) c.args.line.now c.args.end _ c.i2c_reply-reply.result
    (c.i2c_reply-reply.ensures c.args.end c.in-I2c.scl c.in-I2c.sda) (g.P.Sink.taken c.args.replies.now)
    (g.P.Sink.taken c.stream_reply-in-I2c.new.replies))
    c.stream_reply-in-I2c.ensures.streamed)

pub returns-in-I2c-clause-stops : goal.returns-in-I2c-clause-stops
returns-in-I2c-clause-stops g c =
    rw c.in-I2c.is
    (IfErr-weaker c.stream_reply-in-I2c.result _ _
    (stops_decoding _ _ (g.O.Reopen.whole c.args.again.now) c.args.line.now c.args.end _ c.i2c_reply-reply.result
    (c.i2c_reply-reply.ensures c.args.end c.in-I2c.scl c.in-I2c.sda) (g.P.Sink.taken c.args.replies.now)
    (g.P.Sink.taken c.stream_reply-in-I2c.new.replies) _ _)
    c.stream_reply-in-I2c.ensures.stops)
